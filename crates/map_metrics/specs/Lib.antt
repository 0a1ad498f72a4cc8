pub mod Requests
pub mod Times
pub mod Counters
pub mod Metrics
