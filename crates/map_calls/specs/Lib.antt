pub mod Keeping
pub mod Asking
pub mod Governing
pub mod Rolling
pub mod Texts
pub mod Telling
pub mod Calling
