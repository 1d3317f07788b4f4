pub mod Rides
pub mod Tails
pub mod Offers
