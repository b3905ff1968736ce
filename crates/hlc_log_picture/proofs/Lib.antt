mod Judging
mod Legends
mod PictureLaws
mod Pictured
mod SharedDigits
pub mod StampOrders
pub mod LinesAdded
