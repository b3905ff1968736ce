pub mod Packed
pub mod Steps
pub mod Restart
pub mod Laws
