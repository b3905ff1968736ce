pub mod Storm
pub mod Faults
pub mod Interleavings
