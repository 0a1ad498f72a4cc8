pub mod Documents
pub mod Views
pub mod Equality
pub mod Coding
