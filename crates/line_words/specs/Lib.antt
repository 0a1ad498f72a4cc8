pub mod Labels
pub mod Words
