pub mod Paging
pub mod PageGrowth
pub mod Spans
pub mod LogPages
pub mod PageCopies
