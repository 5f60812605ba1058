pub mod Taking
pub mod Matching
