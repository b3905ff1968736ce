pub mod Endings
pub mod Faults
pub mod Close
pub mod Freeze
pub mod Replicas
pub mod Runs
