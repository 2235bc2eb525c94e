pub mod Large
pub mod File
