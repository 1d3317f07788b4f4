pub mod OneEnd
pub mod Transcript
pub mod Turns
