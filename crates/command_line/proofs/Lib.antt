pub mod AskedLemmas
pub mod CommandLemmas
pub mod CommandLineRows
pub mod HelpLemmas
pub mod HttpLemmas
pub mod NumberLemmas
pub mod RowLemmas
