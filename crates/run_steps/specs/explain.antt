pub mod Reads
pub mod Words
pub mod Registers
pub mod Sentences
pub mod Differences
pub mod Summaries
pub mod Telling
