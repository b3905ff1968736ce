pub mod GroupLaws
pub mod GroupSteps
pub mod GroupsSoFar
