pub mod Fitting
pub mod Parts
pub mod States
