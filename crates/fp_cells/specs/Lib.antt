pub mod Cells
pub mod Words
pub mod Texts
pub mod Lists
pub mod Spots
pub mod Entities
pub mod Distinct
