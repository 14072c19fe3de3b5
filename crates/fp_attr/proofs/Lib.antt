mod Checking
mod Readings
pub mod Spelled
