pub mod PrefixLemmas
mod AddingLemmas
mod KeepingLemmas
mod EnteringLemmas
mod LearningLemmas
