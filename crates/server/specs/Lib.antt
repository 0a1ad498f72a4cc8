pub mod FaultCodes
pub mod Rising
pub mod Served
pub mod Relays
