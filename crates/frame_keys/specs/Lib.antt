pub mod Keys
pub mod Measures
pub mod Laws
pub mod Splits
