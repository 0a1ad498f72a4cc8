pub mod ClosureLemmas
pub mod RelayLemmas
