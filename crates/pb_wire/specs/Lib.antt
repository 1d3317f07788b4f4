pub mod Wire
pub mod Cutting
