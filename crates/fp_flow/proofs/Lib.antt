mod LeftWords
mod OperandWords
mod Ranges
mod SameWords
mod Visits
pub mod Counting
pub mod CountedEdges
pub mod EdgeLaws
pub mod Extending
pub mod Nearness
pub mod RisingOffsets
