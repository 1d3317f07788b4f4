pub mod Body
pub mod Clock
pub mod Date
pub mod Journeys
pub mod Plan
pub mod Replies
pub mod Reply
