pub mod Opened
pub mod Unopened
pub mod OpenLog
