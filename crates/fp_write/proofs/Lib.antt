pub mod Low
pub mod Sizes
