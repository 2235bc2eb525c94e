pub mod Cycles
pub mod Returns
