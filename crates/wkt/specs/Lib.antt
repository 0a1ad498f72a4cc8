pub mod FaultCodes
pub mod Tokens
pub mod Numbers
pub mod Reading
pub mod Kept
pub mod Spelling
pub mod Printing
pub mod FirstFaults
