pub mod Given
pub mod Notes
pub mod Places
