pub mod SeatLemmas
pub mod RulingLemmas
