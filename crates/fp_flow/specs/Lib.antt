pub mod Ascending
pub mod EdgeCounts
pub mod Handlers
pub mod Plain
pub mod Reached
pub mod Sent
pub mod Waiting
pub mod Working
