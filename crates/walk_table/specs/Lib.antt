pub mod Near
pub mod Walks
pub mod Reaches
pub mod Edges
pub mod Faults
pub mod Rows
pub mod Passed
pub mod Direct
