pub mod Headline
pub mod Showing
