pub mod DateFacts
pub mod DataFacts
