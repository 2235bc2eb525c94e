pub mod Distances
pub mod Facts
pub mod Lines
pub mod Parts
pub mod Reaching
