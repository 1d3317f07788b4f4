-- What is committed before and after a commit of the pending messages.
use Rattle.std.proofs.Common.{◌≡◌, ℕ, ◌+◌, ◌<◌, ◌≤◌, suc, zero, true, false, ◌==◌, List, [], ◌∷◌, ◌++◌, map, set, length, get_or, replicate, Option, Some, None, Result, Ok, Err, OnOk, OnErr, refl, sym, ◌∙◌, ap, subst, arith}
use Rattle.std.specs.List.{find, slice_get}
use Rattle.std.specs.Option.{option_map, option_map_or}
use Rattle.std.proofs.lemmas.Bool.{eq-eqb, ne_eqb}
use Rattle.std.proofs.lemmas.List.{length-map, length-set}
use Rattle.std.proofs.lemmas.Option.{slice_get-map, slice_get_read}
use Rattle.otp_model.specs.Moves.{first_of}
use Rattle.otp_model.specs.Schedule.{latest, latest_or, message_in, most_feed, most_in}
use Rattle.otp_model.specs.declared.change.Change.{Change}
use Rattle.otp_model.specs.declared.message.Commit.{Commit}
use Rattle.otp_model.specs.declared.message.Message.{Message}
use Rattle.change_buffer.specs.Commits.{IsCommitted, committed_of, numbered, pending_from, pending_of}
use Rattle.change_buffer.specs.Offers.{fresh, settled, with_message}
use Rattle.change_buffer.specs.declared.feed_state.FeedState.{FeedState}
use Rattle.change_buffer.proofs.HistoryLemmas.{latest_more, most_more}

abbrev message_of : ℕ → List (ℕ × Message) → Option Message
message_of number messages = option_map (λ (m : ℕ × Message). m.1) (find (λ (m : ℕ × Message). m.0 == number) messages)

abbrev pending_at : List FeedState → ℕ → Option Message
pending_at states place = option_map_or (λ (state : FeedState). state.pending) (slice_get states place) None

skipped : (first number : ℕ) (pending : Option Message) (rest : List (ℕ × Message)) → (first == number) ≡ false → message_of number (numbered first pending ++ rest) ≡ message_of number rest
skipped first number None rest e = refl
skipped first number (Some message) rest e = rw e refl

none_below : (first number : ℕ) (states : List FeedState) → number < first → message_of number (pending_from first states) ≡ None
none_below first number [] h = refl
none_below first number (state ∷ states) h =
    skipped first number state.pending (pending_from (suc first) states) (ne_eqb first number (λ e. omega arith)) ∙ none_below (suc first) number states (omega arith)

pending_here : (first place : ℕ) (states : List FeedState) → message_of (first + place) (pending_from first states) ≡ pending_at states place
pending_here first place [] = refl
pending_here first zero (state ∷ states) = from state.pending
  where
    from : (pending : Option Message) → message_of (first + zero) (numbered first pending ++ pending_from (suc first) states) ≡ pending
    from None = none_below (suc first) (first + zero) states (omega arith)
    from (Some message) = let e : (first == first + zero) ≡ true = eq-eqb first (first + zero) (omega arith) in rw e refl
pending_here first (suc place) (state ∷ states) =
    let e : suc first + place ≡ first + suc place = omega arith in
    skipped first (first + suc place) state.pending (pending_from (suc first) states) (ne_eqb first (first + suc place) (λ f. omega arith))
    ∙ ap (λ (n : ℕ). message_of n (pending_from (suc first) states)) (sym e)
    ∙ pending_here (suc first) place states

most_numbered : (number bound : ℕ) (pending : Option Message) (rest : List (ℕ × Message)) → number ≤ bound → most_in rest ≤ bound → most_in (numbered number pending ++ rest) ≤ bound
unfolding most_in
most_numbered number bound None rest h g = g
most_numbered number bound (Some message) rest h g = omega arith

most_pending : (first : ℕ) (states : List FeedState) → most_in (pending_from (suc first) states) ≤ first + length states
unfolding most_in
most_pending first [] = omega arith
most_pending first (state ∷ states) =
    let later = most_pending (suc first) states in
    most_numbered (suc first) (first + length (state ∷ states)) state.pending (pending_from (suc (suc first)) states) (omega arith) (omega arith)

settled_at : (states : List FeedState) (place : ℕ) → first_of (pending_at states place) (option_map_or (λ (state : FeedState). state.committed) (slice_get states place) None)
    ≡ option_map_or (λ (state : FeedState). state.committed) (slice_get (map settled states) place) None
settled_at states place = from (slice_get states place) ∙ ap (λ o. option_map_or (λ (state : FeedState). state.committed) o None) (sym (slice_get-map settled states place))
  where
    from : (o : Option FeedState) → first_of (option_map_or (λ (state : FeedState). state.pending) o None) (option_map_or (λ (state : FeedState). state.committed) o None)
        ≡ option_map_or (λ (state : FeedState). state.committed) (option_map settled o) None
    from None = refl
    from (Some state) = refl

-- after a commit of the pending messages these are the committed ones
pub committed_after : (states : List FeedState) (history : List Commit) (commit : Commit) → commit.messages ≡ pending_of states → IsCommitted states history
    → IsCommitted (map settled states) (history ++ commit ∷ [])
committed_after states history commit published committed = record { messages = λ number. at number; feeds = few }
  where
    said : (number : ℕ) → message_in number commit ≡ message_of number (pending_of states)
    said number = ap (message_of number) published

    both : (number : ℕ) → latest (history ++ commit ∷ []) number ≡ first_of (message_of number (pending_of states)) (committed_of states number)
    both number = latest_more None number history commit ∙ (λ i. first_of (said number i) (committed.messages number i))

    at : (number : ℕ) → latest (history ++ commit ∷ []) number ≡ committed_of (map settled states) number
    at zero = both zero ∙ ap (λ o. first_of o None) (none_below 1 zero states (omega arith))
    at (suc place) =
        let e : 1 + place ≡ suc place = omega arith in
        both (suc place)
        ∙ ap (λ o. first_of o (committed_of states (suc place))) (subst (λ (n : ℕ). message_of n (pending_of states) ≡ pending_at states place) e (pending_here 1 place states))
        ∙ settled_at states place

    few : most_feed (history ++ commit ∷ []) ≤ length (map settled states)
    few =
        let total = most_more history commit in
        let published_few : most_in commit.messages ≤ length states = subst (λ (ms : List (ℕ × Message)). most_in ms ≤ length states) (sym published) (let h = most_pending 0 states in omega arith) in
        let feeds = committed.feeds in
        omega (arith, total, published_few, feeds, length-map states settled)

fresh_at : (feeds place : ℕ) → option_map_or (λ (state : FeedState). state.committed) (slice_get (replicate feeds fresh) place) None ≡ None
fresh_at zero place = refl
fresh_at (suc feeds) zero = refl
fresh_at (suc feeds) (suc place) = fresh_at feeds place

-- nothing is committed to fresh feeds
pub committed_fresh : (feeds : ℕ) → IsCommitted (replicate feeds fresh) []
unfolding latest_or most_feed
committed_fresh feeds = record { messages = λ number. at number; feeds = omega arith }
  where
    at : (number : ℕ) → None ≡ committed_of (replicate feeds fresh) number
    at zero = refl
    at (suc place) = sym (fresh_at feeds place)

replaced_at : (states : List FeedState) (place other : ℕ) (state changed : FeedState) → slice_get states place ≡ Some state → changed.committed ≡ state.committed
    → option_map_or (λ (s : FeedState). s.committed) (slice_get (set states place changed) other) None ≡ option_map_or (λ (s : FeedState). s.committed) (slice_get states other) None
replaced_at [] place other state changed h same = absurd (let never : ◌≡◌ {A = Option FeedState} None (Some state) = h in cc)
replaced_at (first ∷ states) zero zero state changed h same =
    let is : first ≡ state = (let found : ◌≡◌ {A = Option FeedState} (Some first) (Some state) = h in cc) in same ∙ ap (λ (s : FeedState). s.committed) (sym is)
replaced_at (first ∷ states) zero (suc other) state changed h same = refl
replaced_at (first ∷ states) (suc place) zero state changed h same = refl
replaced_at (first ∷ states) (suc place) (suc other) state changed h same = replaced_at states place other state changed h same

-- a feed that is replaced by one with the same committed message
pub committed_replaced : (states : List FeedState) (place : ℕ) (state changed : FeedState) (history : List Commit) → slice_get states place ≡ Some state
    → changed.committed ≡ state.committed → IsCommitted states history → IsCommitted (set states place changed) history
committed_replaced states place state changed history h same committed = record {
  messages = λ number. committed.messages number ∙ sym (at number);
  feeds = (let feeds = committed.feeds in omega (arith, feeds, length-set states place changed));
}
  where
    at : (number : ℕ) → committed_of (set states place changed) number ≡ committed_of states number
    at zero = refl
    at (suc other) = replaced_at states place other state changed h same

-- an offer leaves the committed message, whatever it answers
pub committed_offered : {E : Type 0} (states : List FeedState) (place : ℕ) (state changed : FeedState) (message : Message) (changes : List Change) (answer : Result ℕ E) → place < length states → state ≡ get_or states place state
    → OnOk answer (changed ≡ with_message state message changes) → OnErr answer (changed ≡ state) → (history : List Commit) → IsCommitted states history → IsCommitted (set states place changed) history
committed_offered states place state changed message changes answer less read ok err history committed =
    committed_replaced states place state changed history (slice_get_read states (length states) place state refl less read) (same answer ok err) committed
  where
    same : {E : Type 0} (r : Result ℕ E) → OnOk r (changed ≡ with_message state message changes) → OnErr r (changed ≡ state) → changed.committed ≡ state.committed
    same (Ok n) is other = ap (λ (s : FeedState). s.committed) is
    same (Err e) other is = ap (λ (s : FeedState). s.committed) is
