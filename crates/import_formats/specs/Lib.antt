pub mod dot
pub mod edges
pub mod json
pub mod matrix_market
