pub mod BoxLemmas
pub mod CutLemmas
pub mod FormLemmas
