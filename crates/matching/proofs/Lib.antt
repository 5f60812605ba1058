pub mod Bounds
pub mod Listing
pub mod Opened
