pub mod Additions
pub mod Counts
pub mod Replies
pub mod Steps
pub mod Progress
