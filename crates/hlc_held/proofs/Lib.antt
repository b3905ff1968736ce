pub mod StatelessRefusals
pub mod StepFacts
pub mod LogFacts
pub mod SightFacts
pub mod OrderFacts
pub mod Walks
pub mod LogWalks
