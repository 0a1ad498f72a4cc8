pub mod Lists
pub mod Coding
pub mod Growing
pub mod Copies
pub mod Explaining
