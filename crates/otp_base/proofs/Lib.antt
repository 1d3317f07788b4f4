pub mod AddsLemmas
pub mod Appends
pub mod EachAtLemmas
pub mod NumberLemmas
pub mod Whole
