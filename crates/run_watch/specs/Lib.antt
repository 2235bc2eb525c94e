pub mod Spans
pub mod Watching
pub mod Reports
pub mod Records
pub mod Objects
pub mod StatesCsv
pub mod StatesRecords
