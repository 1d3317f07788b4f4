pub mod TimeFacts
pub mod ServiceFacts
