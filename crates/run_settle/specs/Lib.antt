pub mod Outcomes
pub mod Searching
