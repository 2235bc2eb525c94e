pub mod Numerals
pub mod EntrySteps
