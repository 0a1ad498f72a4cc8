pub mod RulingLemmas
pub mod FinishLemmas
pub mod RunLemmas
pub mod CompileLemmas
pub mod KnownLemmas
pub mod CrossingLemmas
