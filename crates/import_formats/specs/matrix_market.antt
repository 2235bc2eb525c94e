pub mod Steps
pub mod Numbers
pub mod Headers
pub mod Sizes
pub mod Entries
pub mod Matrices
pub mod View
