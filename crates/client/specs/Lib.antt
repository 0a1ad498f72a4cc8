pub mod Ends
pub mod Held
pub mod Lines
pub mod Replies
pub mod Steps
pub mod Turns
pub mod Words
