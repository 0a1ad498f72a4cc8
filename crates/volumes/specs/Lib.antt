pub mod Rows
pub mod Edits
pub mod Volumes
pub mod Records
pub mod Promises
pub mod States
