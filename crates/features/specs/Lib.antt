pub mod Names
pub mod Subjects
pub mod Rows
pub mod Changes
pub mod Equality
pub mod FaultCodes
