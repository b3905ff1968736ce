pub mod CleanLogs
pub mod Counting
pub mod EventsInOrder
mod Executions
pub mod Filled
pub mod Found
pub mod GivenStamps
mod MessageCounting
mod MoreMessages
mod OtherOrders
pub mod Ordering
pub mod PlacedCauses
pub mod Rearranged
pub mod ReorderedTraces
pub mod SeenTraces
pub mod SkewOrder
pub mod Swaps
pub mod SamePlaces
