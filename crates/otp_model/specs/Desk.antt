-- What all sessions share: the history of commits that is published, and of each real-time feed what it has accepted and what
-- the next commit publishes. Each message is a full dataset of its feed, so a later one takes the place of an earlier one that is
-- still pending (FeedHeader, FULL_DATASET, in the GTFS Realtime reference). That an older message is refused, and the greatest
-- counts, are this project's own.
use Rattle.std.specs.Prelude.{ℕ, ◌+◌, ◌^◌, suc, zero, List, [], ◌∷◌, ◌++◌, length, map, replicate, slice_get, Option, None, Some, nat_lt, if◌then◌else◌}
use Rattle.std.specs.Option.{option_map}
use Rattle.otp_model.specs.Moves.{first_of}
use Rattle.otp_model.specs.declared.message.Commit.{Commit}
use Rattle.otp_model.specs.declared.message.Message.{Message}

-- of a real-time feed: how many messages were accepted, the timestamp of the last of them that had one, and the message that the
-- next commit publishes
pub record Slot : Type 0 where
  pub accepted : ℕ
  pub timestamp : Option ℕ
  pub pending : Option Message

pub record DeskState : Type 0 where
  pub history : List Commit
  pub slots : List Slot

-- What an offered message is answered: how many its feed has accepted with it; the kept timestamp, where its own is below; or that
-- its feed has accepted 2^40.
pub data Acceptance : Type 0 where
  Accepted : (count : ℕ) → Acceptance
  Older : (have : ℕ) → Acceptance
  Spent : Acceptance

abbrev pub fresh_slot : Slot
fresh_slot = record { accepted = 0; timestamp = None; pending = None }

-- nothing is published, and of so many feeds nothing was accepted
abbrev pub fresh_desk : ℕ → DeskState
fresh_desk feeds = record { history = []; slots = replicate feeds fresh_slot }

-- the kept timestamp, where another is below it
abbrev pub above_of : Option ℕ → Option ℕ → Option ℕ
above_of None timestamp = None
above_of (Some kept) None = None
above_of (Some kept) (Some timestamp) = if nat_lt timestamp kept then Some kept else None

abbrev pub counted : Option ℕ → ℕ → Acceptance
counted (Some have) accepted = Older have
counted None accepted = if nat_lt accepted (2 ^ 40) then Accepted (accepted + 1) else Spent

abbrev pub acceptance : Slot → Message → Acceptance
acceptance slot message = counted (above_of slot.timestamp message.timestamp) slot.accepted

-- a feed's slot after an offer that was answered so
abbrev pub slot_after : Acceptance → Message → Slot → Slot
slot_after (Accepted count) message slot = record { accepted = count; timestamp = first_of message.timestamp slot.timestamp; pending = Some message }
slot_after (Older have) message slot = slot
slot_after Spent message slot = slot

abbrev pub offered : Message → Slot → Slot
offered message slot = slot_after (acceptance slot message) message slot

-- the slot of the feed of a number, which count from 1
abbrev pub slot_at : ℕ → List Slot → Option Slot
slot_at zero slots = None
slot_at (suc place) slots = slice_get slots place

-- the slots once the feed at a place was offered a message
unfoldable pub offered_at : ℕ → Message → List Slot → List Slot
offered_at place message [] = []
offered_at zero message (slot ∷ slots) = offered message slot ∷ slots
offered_at (suc place) message (slot ∷ slots) = slot ∷ offered_at place message slots

-- the desk after the feed of a number was offered a message
abbrev pub accepts : ℕ → Message → DeskState → DeskState
accepts zero message desk = desk
accepts (suc place) message desk = record desk { slots = offered_at place message desk.slots }

-- and what was answered, where there is such a feed
abbrev pub acceptance_by : ℕ → Message → DeskState → Option Acceptance
acceptance_by number message desk = option_map (λ slot. acceptance slot message) (slot_at number desk.slots)

abbrev pub numbered : ℕ → Option Message → List (ℕ × Message)
numbered number None = []
numbered number (Some message) = (number, message) ∷ []

-- the pending messages of slots, of which the first has this number, each with its number
unfoldable pub pending_from : ℕ → List Slot → List (ℕ × Message)
pending_from number [] = []
pending_from number (slot ∷ slots) = numbered number slot.pending ++ pending_from (suc number) slots

abbrev pub pending_in : List Slot → List (ℕ × Message)
pending_in slots = pending_from 1 slots

abbrev pub emptied : Slot → Slot
emptied slot = record slot { pending = None }

-- a desk that publishes these messages, which are all that are pending
abbrev pub published : List (ℕ × Message) → DeskState → DeskState
published messages desk = record { history = desk.history ++ record { messages = messages } ∷ []; slots = map emptied desk.slots }

-- the desk after a commit: where nothing is pending, or the history has 2^40 commits, it is as before
abbrev pub commits_of : List (ℕ × Message) → DeskState → DeskState
commits_of [] desk = desk
commits_of (message ∷ messages) desk = if nat_lt (length desk.history) (2 ^ 40) then published (message ∷ messages) desk else desk

abbrev pub commits : DeskState → DeskState
commits desk = commits_of (pending_in desk.slots) desk
