pub mod Faults
pub mod Rules
pub mod Index
pub mod Keys
pub mod Numbers
pub mod Linked
pub mod Kept
pub mod Resolved
