pub mod FirstFit
pub mod Hops
pub mod Lanes
pub mod Putting
pub mod Rows
pub mod Shapes
pub mod Spans
pub mod Timetables
