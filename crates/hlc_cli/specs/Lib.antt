pub mod Ended
pub mod Fault
pub mod Program
