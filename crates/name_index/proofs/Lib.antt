pub mod TestFacts
pub mod KeyFacts
pub mod SightFacts
