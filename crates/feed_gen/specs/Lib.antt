pub mod Draws
pub mod Texts
pub mod Lines
pub mod Tables
pub mod Wire
pub mod Messages
pub mod Files
