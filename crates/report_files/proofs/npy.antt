pub mod Fronts
pub mod Headers
pub mod Searches
pub mod Elements
pub mod Arrays
pub mod Writes
pub mod Unique
