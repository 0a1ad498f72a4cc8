pub mod Pages
pub mod Printing
pub mod Spelling
