pub mod Refusals
pub mod Finding
pub mod Keeping
pub mod Visiting
