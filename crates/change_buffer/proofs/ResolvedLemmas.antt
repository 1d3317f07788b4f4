-- The changes that are kept of feeds stay those that their messages make.
use Rattle.std.proofs.Common.{◌≡◌, ℕ, zero, suc, ◌<◌, List, map, set, length, get_or, replicate, Option, Some, None, Result, Ok, Err, OnOk, OnErr, refl, sym, subst}
use Rattle.std.proofs.lemmas.List.Elements.{All-cons, All-map, All-nil, All-set, All-weaker}
use Rattle.otp_model.specs.Moves.{first_of}
use Rattle.otp_model.specs.Resolution.{AreChangesOf}
use Rattle.otp_model.specs.declared.change.Change.{Change}
use Rattle.otp_model.specs.declared.message.Message.{Message}
use Rattle.otp_model.specs.declared.timetable.Feed.{Feed}
use Rattle.change_buffer.specs.Forms.{ArePending, AreResolved, AreSaid, IsResolved, changes_now}
use Rattle.change_buffer.specs.Offers.{fresh, settled, with_message}
use Rattle.change_buffer.specs.declared.feed_state.FeedState.{FeedState}

pub resolved_fresh : (feed : Feed) (feeds : ℕ) → AreResolved feed (replicate feeds fresh)
resolved_fresh feed zero = All-nil (IsResolved feed)
resolved_fresh feed (suc feeds) = All-cons (IsResolved feed) fresh (replicate feeds fresh) (record { committed = refl; pending = tt }) (resolved_fresh feed feeds)

-- an offer, whatever it answers
pub resolved_offered : {E : Type 0} (feed : Feed) (states : List FeedState) (place : ℕ) (state changed : FeedState) (message : Message) (changes : List Change) (answer : Result ℕ E)
    → place < length states → state ≡ get_or states place state → OnOk answer (changed ≡ with_message state message changes) → OnErr answer (changed ≡ state)
    → AreChangesOf feed message changes → AreResolved feed states → AreResolved feed (set states place changed)
resolved_offered feed states place state changed message changes answer less read ok err made are =
    All-set (IsResolved feed) states place changed (from answer ok err) are
  where
    here : IsResolved feed state
    here = subst (IsResolved feed) (sym read) (are place state less)

    from : {E : Type 0} (r : Result ℕ E) → OnOk r (changed ≡ with_message state message changes) → OnErr r (changed ≡ state) → IsResolved feed changed
    from (Ok n) is other = subst (IsResolved feed) (sym is) (record { committed = here.committed; pending = made })
    from (Err e) other is = subst (IsResolved feed) (sym is) here

settled_said : (feed : Feed) (committed pending : Option Message) (changes : List Change) (later : Option (List Change)) → AreSaid feed committed changes → ArePending feed pending later
    → AreSaid feed (first_of pending committed) (changes_now (record { committed = changes; pending = later }))
settled_said feed committed None changes None are more = are
settled_said feed committed None changes (Some later) are more = absurd more
settled_said feed committed (Some message) changes None are more = absurd more
settled_said feed committed (Some message) changes (Some later) are more = more

-- the pending messages are the committed ones
pub resolved_settled : (feed : Feed) (states : List FeedState) → AreResolved feed states → AreResolved feed (map settled states)
resolved_settled feed states are =
    All-map (IsResolved feed) settled states
    (All-weaker (IsResolved feed) (λ state. IsResolved feed (settled state))
    (λ state is. record { committed = settled_said feed state.committed state.pending state.said.committed state.said.pending is.committed is.pending; pending = tt }) states are)
