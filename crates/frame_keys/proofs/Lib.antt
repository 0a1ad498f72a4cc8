pub mod Growth
pub mod MaskBits
pub mod Middles
pub mod MaskHulls
pub mod Stretches
pub mod Meetings
