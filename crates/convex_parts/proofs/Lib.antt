pub mod Holes
pub mod PathSums
pub mod Runs
pub mod Steps
