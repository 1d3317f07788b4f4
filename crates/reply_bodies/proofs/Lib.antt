pub mod ValueFacts
