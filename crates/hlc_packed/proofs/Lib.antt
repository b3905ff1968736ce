pub mod PackedOrder
pub mod RestartFacts
pub mod StepFacts
