pub mod Committing
pub mod Members
pub mod Faults
pub mod Telling
pub mod Editing
