mod ArgumentWords
mod CheckedLocals
mod CheckedCodes
mod CodesOver
pub mod ClassSpelled
pub mod Facts
pub mod Heads
pub mod Marks
pub mod MemberSpelled
pub mod MemberTexts
pub mod LongerClasses
mod LongerInstrs
mod NamedClass
mod NamedCode
mod NamedMethods
mod NamedParts
mod Numberings
mod PlainOver
mod OneCode
mod OneDescr
mod Seen
pub mod SoundCodes
pub mod Skipped
pub mod OneClass
pub mod Phases
pub mod Sorts
mod SoundInstrs
pub mod SoundMethods
mod Walks
