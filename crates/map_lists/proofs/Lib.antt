pub mod Again
pub mod ReadLists
