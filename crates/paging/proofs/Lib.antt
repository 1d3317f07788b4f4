pub mod NumberFacts
pub mod CursorFacts
