mod Counting
mod Finding
mod FirstText
mod Indexing
mod Members
mod MethodsOver
mod Namesakes
mod Naming
mod Owners
mod Pigeonhole
mod Reaching
mod Refusals
mod SmallSets
mod Tables
pub mod ArrayTypes
pub mod Checking
pub mod Crowded
pub mod ElementTexts
pub mod EndedNames
pub mod Interned
pub mod LongerCodes
pub mod LongerTables
pub mod Many
pub mod MethodGrammar
pub mod MethodKinds
pub mod MethodParts
pub mod MethodTypes
pub mod OneKind
pub mod Readers
pub mod Soundness
pub mod Steps
pub mod Stops
pub mod Takes
pub mod Taking
