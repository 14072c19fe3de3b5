mod FileMapLemmas
mod NameSetLemmas
mod ResultLemmas
pub mod CallLemmas
pub mod EscapeLemmas
pub mod FileLemmas
pub mod NameLemmas
pub mod OrderLemmas
pub mod ReadLemmas
pub mod SinkLemmas
