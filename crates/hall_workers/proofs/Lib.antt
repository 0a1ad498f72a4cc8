pub mod CrossingLemmas
