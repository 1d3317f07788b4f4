pub mod Records
pub mod Faults
pub mod Fields
pub mod Table
