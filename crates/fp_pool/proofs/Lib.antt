mod Again
pub mod Formed
mod Marks
mod Slots
pub mod Spelled
