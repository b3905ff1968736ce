pub mod Answered
pub mod Drawn
pub mod NoEvents
pub mod ScriptStop
pub mod TooLong
pub mod Traced
pub mod Played
