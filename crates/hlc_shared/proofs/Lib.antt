pub mod Followed
pub mod Runs
pub mod Halves
