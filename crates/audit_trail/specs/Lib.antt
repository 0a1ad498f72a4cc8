pub mod Records
pub mod Coding
pub mod Views
pub mod Legal
pub mod Calls
pub mod FaultCodes
pub mod JsonLines
pub mod Equality
