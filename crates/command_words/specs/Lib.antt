pub mod Words
pub mod Values
pub mod Serving
pub mod Commands
pub mod App
pub mod Messages
