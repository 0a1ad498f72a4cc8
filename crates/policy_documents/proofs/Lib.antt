pub mod NodeLemmas
pub mod RuleLemmas
pub mod ZoneLemmas
pub mod EqualLemmas
pub mod RowLemmas
pub mod CrossingLemmas
