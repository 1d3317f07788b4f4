mod EndLemmas
pub mod RunLemmas
mod TurnLemmas
mod WriteLemmas
