pub mod LogEntry
pub mod Sights
pub mod Agreement
pub mod Walks
pub mod Seats
pub mod StatelessRefusals
pub mod Kept
pub mod Laws
