pub mod Asking
pub mod CommandLine
pub mod Http
pub mod Tables
