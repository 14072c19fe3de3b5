mod Loops
pub mod Spelled
pub mod Walking
mod Places
pub mod NamedParts
mod PassedEntries
mod PoolTexts
mod PoolMembers
mod PoolSites
mod PoolConstants
mod Referred
mod AskedOperands
mod ShortTargets
mod GivenForms
pub mod DecodedCode
pub mod TakenTexts
pub mod Tables
pub mod LongerInstrs
pub mod Memos
pub mod BootMemos
pub mod ReferenceTexts
