pub mod Lists
pub mod ReadBack
pub mod NumberLemmas
pub mod TextLemmas
pub mod Told
pub mod Joined
pub mod Unread
