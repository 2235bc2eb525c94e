pub mod Previous
pub mod explain
pub mod script
pub mod verify
