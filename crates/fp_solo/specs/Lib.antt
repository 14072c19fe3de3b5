pub mod Solving
pub mod Steps
pub mod Queued
pub mod Agenda
pub mod Recorded
pub mod Asked
pub mod Working
pub mod Counted
