pub mod Device
pub mod Report
pub mod Lines
pub mod Digits
pub mod Front
pub mod ReadReport
pub mod NodeLines
