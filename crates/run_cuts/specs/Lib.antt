pub mod Operators
pub mod Cuts
pub mod Counting
pub mod Symbols
pub mod Texts
