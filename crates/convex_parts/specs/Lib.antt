pub mod Faults
pub mod Lines
pub mod Paths
pub mod Regions
