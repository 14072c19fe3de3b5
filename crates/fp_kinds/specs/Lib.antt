pub mod Transfers
pub mod Kinds
