pub mod Naive
pub mod Differences
pub mod Telling
pub mod Writing
pub mod Keeping
pub mod Phases
