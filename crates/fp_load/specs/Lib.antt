pub mod Causes
pub mod Faults
pub mod Load
pub mod Steps
pub mod Gathering
pub mod Judging
pub mod Kinds
