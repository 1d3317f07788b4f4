pub mod RideLemmas
pub mod TailLemmas
pub mod OfferLemmas
