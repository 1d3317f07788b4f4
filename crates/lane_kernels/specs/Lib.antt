pub mod Columns
pub mod Lanes
