pub mod Courses
pub mod Indices
pub mod Meaning
pub mod Moving
pub mod Reasons
pub mod Tallies
