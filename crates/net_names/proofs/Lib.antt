pub mod Texts
pub mod Names
mod FirstLines
pub mod Refusals
mod Whole
