pub mod Traces
pub mod Honesty
pub mod OneMoreVerdict
pub mod OneByOne
