pub mod Laws
pub mod LogRow
pub mod Room
pub mod RowText
pub mod StampText
