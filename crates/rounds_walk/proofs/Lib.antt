pub mod Alike
pub mod Counted
pub mod Filled
pub mod GoesOn
pub mod Held
pub mod Plain
pub mod Stays
pub mod Stepped
