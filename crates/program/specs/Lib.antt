pub mod BuiltIn
pub mod Checks
pub mod Ends
pub mod Programs
pub mod RunFaults
pub mod Runs
