pub mod Cuts
pub mod FaultCodes
pub mod Pages
pub mod Windows
pub mod Boxes
pub mod Dates
pub mod Queries
pub mod Asking
