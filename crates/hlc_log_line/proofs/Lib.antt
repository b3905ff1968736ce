pub mod RoomFacts
pub mod RowFacts
