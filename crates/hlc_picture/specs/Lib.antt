pub mod Drawn
pub mod What
