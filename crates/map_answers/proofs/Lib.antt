pub mod PieceLemmas
pub mod RowLemmas
