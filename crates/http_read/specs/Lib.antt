pub mod Fields
pub mod Head
pub mod Held
pub mod Item
pub mod Lines
pub mod OneItem
pub mod Scan
