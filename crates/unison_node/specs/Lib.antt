pub mod Desks
pub mod Offers
