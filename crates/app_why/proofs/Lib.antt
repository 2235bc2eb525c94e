mod Rows
mod RunOf
mod Within
