pub mod TraceFacts
