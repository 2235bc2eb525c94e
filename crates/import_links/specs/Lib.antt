pub mod Joining
pub mod Numbering
pub mod Refusals
pub mod Merging
pub mod Puts
pub mod Settling
