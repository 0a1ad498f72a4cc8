pub mod SlotLemmas
pub mod ArenaLaws
mod Handles
