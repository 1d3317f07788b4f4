mod SessionLemmas
mod TakeLemmas
mod ReplyLemmas
mod PlanLemmas
mod OfferLemmas
mod MeetingFacts
mod DeskLemmas
mod GrowLemmas
