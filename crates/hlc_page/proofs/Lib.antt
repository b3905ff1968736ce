pub mod Drawings
pub mod GivenFacts
pub mod LogAnswers
pub mod Statuses
