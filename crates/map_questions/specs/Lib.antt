pub mod Calls
pub mod FaultCodes
pub mod Queries
pub mod Askings
