pub mod Laws
pub mod Pairs
pub mod Place
pub mod Query
pub mod Resource
pub mod Target
