pub mod Attributes
pub mod Codes
