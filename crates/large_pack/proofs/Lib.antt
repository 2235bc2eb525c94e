mod Numbers
mod Permuting
mod Offsets
mod Laying
mod Surveying
mod Ranking
mod Beating
mod Mapped
mod Packs
pub mod Rising
pub mod Sounds
mod Repeats
mod Apart
mod Unrepeated
mod Keying
mod KeyRows
mod Readings
mod Halving
