pub mod Held
pub mod Kinds
pub mod Rings
