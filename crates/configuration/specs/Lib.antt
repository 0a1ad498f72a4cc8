pub mod Checking
pub mod ConfigFaults
pub mod ConfigFiles
pub mod Configs
pub mod Paths
pub mod Spelling
pub mod Summaries
pub mod Web
