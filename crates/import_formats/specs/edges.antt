pub mod Steps
pub mod Columns
pub mod Places
pub mod Headings
pub mod Edges
pub mod Tables
pub mod View
