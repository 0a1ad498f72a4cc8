pub mod EventLemmas
pub mod ListLemmas
pub mod NotingLemmas
pub mod TrailLemmas
pub mod CrossingLemmas
