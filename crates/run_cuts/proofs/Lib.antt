mod Named
mod Turns
mod Found
mod Noted
mod Standing
mod Told
mod Plain
mod InOrder
