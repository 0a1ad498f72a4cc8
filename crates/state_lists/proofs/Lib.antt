pub mod Adding
pub mod Prefixes
