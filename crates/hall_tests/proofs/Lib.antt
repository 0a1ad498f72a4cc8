pub mod ClosureLemmas
