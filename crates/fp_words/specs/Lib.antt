pub mod Asked
pub mod Command
pub mod Lists
pub mod Numbers
pub mod Words
