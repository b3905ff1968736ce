pub mod Coming
pub mod Kept
pub mod Laws
pub mod Lists
pub mod Records
pub mod Ring
pub mod Watching
