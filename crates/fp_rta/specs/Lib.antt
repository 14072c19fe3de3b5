pub mod CallGraph
pub mod Contributions
pub mod Listed
pub mod Meaning
pub mod Places
pub mod Tasks
