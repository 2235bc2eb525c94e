pub mod Files
pub mod Headers
pub mod Arrays
pub mod Written
pub mod Parts
