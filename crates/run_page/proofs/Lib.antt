pub mod Rows
pub mod Marks
pub mod Closing
pub mod Shapes
pub mod Fitting
pub mod Stepping
