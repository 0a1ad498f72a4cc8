pub mod Holding
pub mod Decisions
pub mod Deciding
pub mod ThreeAlgorithms
pub mod Tallies
pub mod Gathering
pub mod Finishing
