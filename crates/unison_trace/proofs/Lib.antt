pub mod Leading
pub mod ReadPairs
pub mod ScheduleLines
pub mod ReplayLines
