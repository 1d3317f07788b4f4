pub mod Rows
pub mod Feed
