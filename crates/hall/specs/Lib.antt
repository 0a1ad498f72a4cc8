pub mod FaultCodes
pub mod Names
pub mod Present
pub mod Seats
pub mod Calls
pub mod Closing
pub mod Reading
