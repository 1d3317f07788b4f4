mod OfferLemmas
mod SearchLemmas
