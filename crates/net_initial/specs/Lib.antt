pub mod Ahead
pub mod Draws
pub mod LinkOrder
pub mod NodeLists
pub mod Opened
pub mod Placed
pub mod Texts
