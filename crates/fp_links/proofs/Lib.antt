pub mod RingLemmas
pub mod ShapeLemmas
pub mod EdgeLemmas
pub mod RowLemmas
pub mod LinkLemmas
