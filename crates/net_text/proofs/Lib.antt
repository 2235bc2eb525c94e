mod Members
mod ReadBack
mod LinkLines
mod Texts
pub mod Listings
mod RowSteps
