pub mod Gathered
pub mod Uncut
pub mod Found
pub mod InOrder
pub mod Placed
pub mod Noted
pub mod Turns
