pub mod Lines
pub mod Rows
pub mod Sound
pub mod Surveys
pub mod Packing
pub mod Ranks
pub mod Keys
