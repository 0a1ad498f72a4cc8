pub mod Api
pub mod CallPaths
pub mod Collections
pub mod Extents
pub mod Fixed
pub mod Landing
