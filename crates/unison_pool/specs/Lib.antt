pub mod Faults
pub mod Endings
pub mod Parts
pub mod Refusals
pub mod Runs
