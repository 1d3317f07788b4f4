pub mod Lines
pub mod Reply
pub mod Commands
pub mod Offline
pub mod Messages
