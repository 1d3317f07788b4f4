pub mod Slice
pub mod Text
