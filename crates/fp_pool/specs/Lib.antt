pub mod Form
pub mod Sorts
