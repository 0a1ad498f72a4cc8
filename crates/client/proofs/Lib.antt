pub mod ByteLemmas
pub mod LineLemmas
pub mod PassLemmas
pub mod SendLemmas
pub mod TalkLemmas
pub mod TurnLemmas
