pub mod Words
pub mod Spelled
pub mod Unsaid
pub mod Meaning
pub mod Texts
pub mod Refusals
pub mod Runs
