pub mod Listing
pub mod Written
pub mod Faults
pub mod RowLinks
