pub mod FaultTexts
pub mod Outcome
pub mod Refusal
pub mod Runs
pub mod Top
pub mod Words
