pub mod AnswerFacts
pub mod CommittedFacts
pub mod TakenFacts
