pub mod Label
pub mod Laws
pub mod LogRows
pub mod VectorText
