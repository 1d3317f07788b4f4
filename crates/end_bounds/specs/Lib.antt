pub mod Bounds
pub mod Found
pub mod Levels
pub mod Making
pub mod Points
pub mod Scans
pub mod Tables
