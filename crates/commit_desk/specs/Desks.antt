-- What contracts see of a desk, and what its calls do.
use Rattle.std.specs.Prelude.{◌≡◌, ℕ, ◌+◌, ◌^◌, ◌≤◌, List, [], ◌∷◌, length, map, Bool, true, false, Result, Ok, Err, if◌then◌else◌}
use Rattle.std.specs.List.{All, list_any}
use mathlib.Core.List.{IsPrefix}
use Rattle.logbook.specs.Pages.{Book}
use Rattle.change_buffer.specs.Commits.{IsCommitted}
use Rattle.change_buffer.specs.Forms.{AreResolved}
use Rattle.change_buffer.specs.Offers.{is_pending}
use Rattle.change_buffer.specs.declared.feed_state.FeedState.{FeedState}
use Rattle.change_buffer.specs.declared.offer_fault.OfferFault.{OfferFault}
use Rattle.change_buffer.specs.declared.offer_fault.OfferFault.TheVariants as fault
use Rattle.otp_model.specs.Core.{History}
use Rattle.otp_model.specs.Desk.{Acceptance, Accepted, DeskState, Older, Slot, Spent}
use Rattle.otp_model.specs.Sound.{IsSound}
use Rattle.otp_model.specs.declared.message.Message.{Message}
use Rattle.otp_model.specs.declared.timetable.Feed.{Feed}
use Rattle.rt_resolve.specs.Indices.{IsIndexOf}
use Rattle.rt_resolve.specs.declared.lookup.FeedIndex.{FeedIndex}
use Rattle.snapshot_store.specs.declared.snapshot.Snapshot.{Snapshot}
use Rattle.commit_history.specs.Entries.{IsSnapshotOf}
use Rattle.commit_history.specs.Views.{EnteredAt, PassView, WriterView}

-- a desk has the feed, the cell of its history, and the state that all sessions share
pub record DeskView : Type 0 where
  pub feed : Feed
  pub cell : Book
  pub state : DeskState

-- what its writer has published
abbrev pub writer_of : DeskView → WriterView
writer_of desk = record { feed = desk.feed; cell = desk.cell; history = desk.state.history }

-- what sessions share of a real-time feed: not the committed message, which is in the history
abbrev pub slot_of : FeedState → Slot
slot_of state = record { accepted = state.accepted; timestamp = state.timestamp; pending = state.pending }

abbrev pub state_of : List FeedState → History → DeskState
state_of states history = record { history = history; slots = map slot_of states }

-- a desk of this writer and this buffer
abbrev pub desk_of : WriterView → List FeedState → DeskView
desk_of published states = record { feed = published.feed; cell = published.cell; state = state_of states published.history }

-- 1 where something is pending
abbrev pub pending_one : List FeedState → ℕ
pending_one states = if list_any is_pending states then 1 else 0

-- how many messages all feeds together have accepted
unfoldable pub accepted_in : List FeedState → ℕ
accepted_in [] = 0
accepted_in (state ∷ states) = state.accepted + accepted_in states

-- no feed has accepted more than 2^40 messages, no more than 2^40 commits are published, and each commit, with the one to come, took a
-- message
pub record IsCounted (states : List FeedState) (history : History) : Type 0 where
  pub counts : All (λ (state : FeedState). state.accepted ≤ 2 ^ 40) states
  pub few : length history ≤ 2 ^ 40
  pub enough : length history + pending_one states ≤ accepted_in states

-- the feed is sound, has this index and is the writer's, the buffer has committed the history and keeps the changes that its messages make,
-- the newest snapshot is the one after it, and the counts are within their bounds
pub record IsDesk (feed : Feed) (published : WriterView) (states : List FeedState) (index : FeedIndex) (newest : Snapshot) : Type 0 where
  pub sound : IsSound feed
  pub indexed : IsIndexOf feed index
  pub feed_is : feed ≡ published.feed
  pub committed : IsCommitted states published.history
  pub resolved : AreResolved feed states
  pub stands : IsSnapshotOf newest feed published.history
  pub counted : IsCounted states published.history

-- whether there are any of these messages
abbrev pub has_pending : List (ℕ × Message) → Bool
has_pending [] = false
has_pending (message ∷ messages) = true

-- an offer's answer
abbrev pub answer_of : Acceptance → Result ℕ OfferFault
answer_of (Accepted count) = Ok count
answer_of (Older have) = Err (fault.Older have)
answer_of Spent = Err fault.CountSpent

-- the pass has entered once more, and knows this history alone, which begins with the published one and with all that it knew
abbrev pub MeetsAt : PassView → PassView → History → History → Type 0
MeetsAt old new published history = IsPrefix published history × EnteredAt old new history
