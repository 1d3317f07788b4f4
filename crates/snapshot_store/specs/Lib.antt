pub mod Changing
pub mod Grouping
pub mod Marks
pub mod Order
pub mod Places
pub mod Shaping
pub mod Snapshots
