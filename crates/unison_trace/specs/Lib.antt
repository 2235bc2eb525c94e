pub mod Histories
pub mod Refusals
pub mod Traces
pub mod Schedules
pub mod ReadLines
pub mod Replays
pub mod ReplayFaults
