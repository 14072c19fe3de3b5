pub mod BootMemos
pub mod CallSites
pub mod Checked
pub mod Forms
pub mod Marks
pub mod Memos
pub mod References
