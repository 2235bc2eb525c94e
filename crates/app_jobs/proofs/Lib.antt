pub mod Shapes
pub mod Passing
mod Causes
mod Accepted
