pub mod States
pub mod Listing
pub mod Judging
