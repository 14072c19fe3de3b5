pub mod Report
pub mod Printing
pub mod Sites
