pub mod npy
pub mod tables
