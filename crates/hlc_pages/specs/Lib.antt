pub mod Bytes
pub mod Pages
pub mod Lends
pub mod Log
pub mod Copies
pub mod Growth
pub mod Link
