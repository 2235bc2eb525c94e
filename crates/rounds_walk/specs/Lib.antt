pub mod Columns
pub mod Counts
pub mod GoingOn
pub mod Stays
pub mod Values
pub mod Walking
pub mod part_rounds
