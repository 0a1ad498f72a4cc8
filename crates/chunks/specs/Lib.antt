pub mod Owned
pub mod Places
pub mod Blocks
pub mod Tables
pub mod Chunks
pub mod Lends
