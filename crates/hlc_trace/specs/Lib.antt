pub mod Claim
pub mod Trace
