pub mod Served
pub mod Status
pub mod Comparison
pub mod FirstFault
