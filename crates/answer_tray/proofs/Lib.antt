pub mod CrossingLemmas
pub mod TrayLemmas
