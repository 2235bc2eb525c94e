pub mod Complete
pub mod Ends
pub mod ItemsRead
pub mod Leads
pub mod Lexing
pub mod Models
pub mod Nesting
pub mod SingleTokens
pub mod Sound
mod Listing
