pub mod Words
pub mod ScriptGrowth
pub mod ScriptLengths
pub mod EntriesStay
pub mod Counts
pub mod Interleavings
pub mod StepsPass
pub mod NeverRefused
