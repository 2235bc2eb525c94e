pub mod Tables
pub mod Stops
pub mod Refusals
pub mod Reports
pub mod Csv
pub mod Writing
