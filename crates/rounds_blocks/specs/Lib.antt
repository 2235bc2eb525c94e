pub mod Rounds
pub mod Batches
pub mod Gathered
pub mod Nears
pub mod Spans
pub mod Walks
pub mod InLine
