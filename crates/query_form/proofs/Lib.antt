pub mod PairFacts
pub mod CursorFacts
pub mod AddedFacts
pub mod LeadsOn
