pub mod NoMemory
pub mod JsonFault
