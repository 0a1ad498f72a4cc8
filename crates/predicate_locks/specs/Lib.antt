pub mod Searches
pub mod Sound
pub mod Numbers
pub mod FaultCodes
