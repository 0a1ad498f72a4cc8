pub mod FaultCodes
pub mod Slot
pub mod Slots
pub mod Lends
