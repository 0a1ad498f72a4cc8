pub mod Marks
pub mod Faults
pub mod Gathering
pub mod Elements
pub mod Layers
pub mod Pictures
pub mod Drawings
