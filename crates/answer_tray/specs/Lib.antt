pub mod Trays
pub mod Coding
