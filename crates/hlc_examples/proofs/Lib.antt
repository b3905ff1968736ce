pub mod FirstRecords
pub mod LineCounts
pub mod OneEntry
