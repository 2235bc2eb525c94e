mod Unison
mod Reported
