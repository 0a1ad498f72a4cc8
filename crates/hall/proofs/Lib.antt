pub mod CrossingLemmas
pub mod Gathering
pub mod Governed
pub mod Lasts
pub mod Level
pub mod Refusals
pub mod Seating
