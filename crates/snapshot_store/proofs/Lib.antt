mod BlockLemmas
mod IndexLemmas
mod MarkLemmas
pub mod OrderLemmas
mod PlaceLemmas
mod RenewLemmas
mod RowLemmas
mod SearchLemmas
mod ShapingLemmas
mod TakeLemmas
mod TouchLemmas
