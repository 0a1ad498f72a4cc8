pub mod Changing
pub mod Chronicles
pub mod Coding
pub mod Comparing
pub mod Noting
