pub mod Ticks
pub mod Places
pub mod Blocks
pub mod Tables
pub mod FaultCodes
