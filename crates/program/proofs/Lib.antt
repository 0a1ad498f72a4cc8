pub mod BuiltInLemmas
pub mod CheckLemmas
pub mod DrawLemmas
pub mod ProgramLemmas
pub mod RunLemmas
pub mod TellLemmas
