pub mod Entries
pub mod Histories
pub mod Logs
pub mod Rules
pub mod Takes
pub mod Views
