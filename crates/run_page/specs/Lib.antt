pub mod Pages
pub mod Refusals
pub mod Closed
pub mod Embedding
