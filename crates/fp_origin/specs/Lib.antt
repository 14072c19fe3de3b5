pub mod Answers
pub mod Ascending
pub mod Groups
pub mod Growth
pub mod Numbering
