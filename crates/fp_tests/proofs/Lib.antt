mod GraphCells
mod MethodLemmas
pub mod RisingLemmas
