pub mod Documents
pub mod Replies
