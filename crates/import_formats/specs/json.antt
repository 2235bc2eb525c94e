pub mod Graphs
pub mod View
