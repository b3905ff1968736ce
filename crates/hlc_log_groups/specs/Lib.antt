pub mod ComparedStamps
pub mod Followed
pub mod GroupRows
pub mod Groups
pub mod Laws
