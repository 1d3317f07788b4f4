mod SlotLemmas
pub mod ScheduleLemmas
mod CostLemmas
mod DeskLemmas
pub mod MeetingLemmas
pub mod CountLemmas
