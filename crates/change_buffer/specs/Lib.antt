pub mod Commits
pub mod Forms
pub mod Laws
pub mod Offers
