pub mod Naming
pub mod NamesFiles
