pub mod Rows
pub mod StateWords
pub mod Whole
