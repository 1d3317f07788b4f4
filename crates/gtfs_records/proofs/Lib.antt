pub mod DigitFacts
pub mod HeaderFacts
pub mod EachFacts
pub mod RecordFacts
pub mod CountFacts
