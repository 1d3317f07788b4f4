-- What a buffer does with the messages of real-time feeds: of each feed the last accepted one counts, and its
-- timestamps don't fall. That an older message is refused, and the greatest count, are this project's own.
use Rattle.std.specs.Prelude.{ℕ, ◌+◌, ◌^◌, List, [], Option, None, Some, Result, Ok, Err, Bool, true, false, nat_le, nat_lt, if◌then◌else◌}
use Rattle.otp_model.specs.Moves.{first_of}
use Rattle.otp_model.specs.declared.change.Change.{Change}
use Rattle.otp_model.specs.declared.message.Message.{Message}
use Rattle.change_buffer.specs.Forms.{changes_settled}
use Rattle.change_buffer.specs.declared.offer_fault.OfferFault.{OfferFault}
use Rattle.change_buffer.specs.declared.offer_fault.OfferFault.TheVariants.{Older, CountSpent}
use Rattle.change_buffer.specs.declared.feed_state.FeedState.{FeedState}

-- the kept timestamp, where a message's is below it
abbrev pub above_of : Option ℕ → Option ℕ → Option ℕ
above_of None timestamp = None
above_of (Some kept) None = None
above_of (Some kept) (Some timestamp) = if nat_lt timestamp kept then Some kept else None

-- a feed of which nothing was accepted
abbrev pub fresh : FeedState
fresh = record { accepted = 0; timestamp = None; committed = None; pending = None; said = record { committed = []; pending = None } }

-- how many messages a feed has accepted with this one, or why this one is refused
abbrev pub counted : Option ℕ → ℕ → Result ℕ OfferFault
counted (Some have) accepted = Err (Older have)
counted None accepted = if nat_le (2 ^ 40) accepted then Err CountSpent else Ok (accepted + 1)

abbrev pub answer_to : FeedState → Message → Result ℕ OfferFault
answer_to state message = counted (above_of state.timestamp message.timestamp) state.accepted

-- a feed with one more message, which makes these changes, and is pending in place of an earlier one
abbrev pub with_message : FeedState → Message → List Change → FeedState
with_message state message changes = record {
  accepted = state.accepted + 1;
  timestamp = first_of message.timestamp state.timestamp;
  committed = state.committed;
  pending = Some message;
  said = record { committed = state.said.committed; pending = Some changes };
}

abbrev pub is_some_message : Option Message → Bool
is_some_message None = false
is_some_message (Some message) = true

abbrev pub is_pending : FeedState → Bool
is_pending state = is_some_message state.pending

-- a feed whose pending message, if it has one, is the committed one
abbrev pub settled : FeedState → FeedState
settled state = record state { committed = first_of state.pending state.committed; pending = None; said = changes_settled state.said }
