pub mod LocalTime
pub mod Active
