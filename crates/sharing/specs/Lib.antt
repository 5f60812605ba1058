pub mod Sharing
pub mod Asked
pub mod Time
pub mod ProRata
pub mod Examples
pub mod Proportion
pub mod InOrder
