pub mod Requests
pub mod Faults
pub mod Items
pub mod Reading
pub mod Views
pub mod Committing
pub mod Telling
pub mod Listing
