pub mod Replies
pub mod Events
pub mod Sessions
pub mod Services
