pub mod Records
pub mod Orders
pub mod Changes
pub mod Departures
