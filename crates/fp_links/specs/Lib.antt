pub mod Linked
pub mod Rings
pub mod Fields
