pub mod Refusals
pub mod Spans
pub mod Words
