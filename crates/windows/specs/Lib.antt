pub mod Rectangles
pub mod Prepared
