pub mod Costs
pub mod Desks
pub mod Dones
