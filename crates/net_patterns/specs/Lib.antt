pub mod Cells
pub mod OnGrids
pub mod Placing
pub mod Rle
pub mod RunSteps
pub mod Steps
pub mod Texts
pub mod Written
