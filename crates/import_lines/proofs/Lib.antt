mod LineFaults
pub mod LinesCut
mod Digits
mod Numerals
mod Quotients
mod Scaling
