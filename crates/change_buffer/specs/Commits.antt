-- What a commit of the pending messages publishes, and what is committed.
use Rattle.std.specs.Prelude.{◌≡◌, ℕ, ◌≤◌, suc, zero, List, [], ◌∷◌, ◌++◌, length, Option, None, Some, slice_get}
use Rattle.std.specs.Option.{option_map_or}
use Rattle.otp_model.specs.Schedule.{latest, most_feed}
use Rattle.otp_model.specs.declared.message.Commit.{Commit}
use Rattle.otp_model.specs.declared.message.Message.{Message}
use Rattle.change_buffer.specs.declared.feed_state.FeedState.{FeedState}

abbrev pub numbered : ℕ → Option Message → List (ℕ × Message)
numbered number None = []
numbered number (Some message) = (number, message) ∷ []

-- the pending messages of feeds, of which the first has this number, each with the number of its feed
abbrev pub pending_from : ℕ → List FeedState → List (ℕ × Message)
pending_from number [] = []
pending_from number (state ∷ states) = numbered number state.pending ++ pending_from (suc number) states

-- the pending messages with the numbers of their feeds, which count from 1
abbrev pub pending_of : List FeedState → List (ℕ × Message)
pending_of states = pending_from 1 states

-- the committed message of the feed of this number, if there is such a feed and it has one
abbrev pub committed_of : List FeedState → ℕ → Option Message
committed_of states zero = None
committed_of states (suc place) = option_map_or (λ (state : FeedState). state.committed) (slice_get states place) None

-- of each feed the committed message is the latest one of the history, which has no other feeds
pub record IsCommitted (states : List FeedState) (history : List Commit) : Type 0 where
  pub messages : (number : ℕ) → latest history number ≡ committed_of states number
  pub feeds : most_feed history ≤ length states
