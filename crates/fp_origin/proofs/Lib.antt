mod GroupBits
mod GroupMarks
mod LawfulGroups
mod TransferLists
mod WrittenWords
pub mod AscendingOrigins
pub mod Chosen
pub mod Gathering
pub mod Growing
pub mod Numbered
pub mod Outcome
pub mod ReachedOrigins
pub mod Steps
