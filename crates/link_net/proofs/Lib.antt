mod ArcLaws
mod Rows
mod Ranges
mod ArcWeights
mod Offsets
mod Parts
mod Whole
mod Looks
mod Same
mod LinkSteps
mod Laying
mod Checks
mod Describing
mod Steps
mod NameOrder
mod Places
mod Refusals
mod Repeats
mod ShapeSteps
mod DraftRefusals
mod Crowds
mod ShapeRefusals
mod Documents
mod LentRows
mod Finds
pub mod Searches
pub mod Simples
