pub mod Parts
pub mod Texts
pub mod Weights
pub mod Named
