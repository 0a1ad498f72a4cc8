pub mod SearchLemmas
pub mod MeetingLemmas
pub mod NumberLemmas
