pub mod FrontLemmas
pub mod WholeLemmas
