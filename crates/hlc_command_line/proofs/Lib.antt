pub mod App
pub mod AskedFacts
pub mod LineFacts
mod JsonFacts
mod UnitFacts
pub mod Faults
