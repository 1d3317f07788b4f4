-- What a buffer's calls do to what sessions share.
use Rattle.std.proofs.Common.{◌≡◌, ◌≢◌, ℕ, zero, suc, ◌<◌, ◌^◌, Bool, true, false, nat_lt, nat_le, List, [], ◌∷◌, ◌++◌, length, map, replicate, slice_get, slice_set, Option, Some, None, Result, Ok, Err, OnOk, OnErr, refl, sym, ap, subst, ◌∙◌, arith}
use Rattle.std.specs.List.{list_any}
use Rattle.std.specs.Option.{option_map}
use Rattle.std.proofs.lemmas.Bool.Decides.{nat_tests}
use Rattle.otp_model.proofs.JudgedLemmas.{by_test}
use Rattle.otp_model.specs.Core.{History}
use Rattle.otp_model.specs.Desk.{DeskState, above_of, acceptance, acceptance_by, accepts, commits, commits_of, counted, emptied, fresh_desk, fresh_slot, numbered, offered, offered_at, pending_from, pending_in, published}
use Rattle.otp_model.specs.declared.message.Commit.{Commit}
use Rattle.otp_model.specs.declared.change.Change.{Change}
use Rattle.otp_model.specs.declared.message.Message.{Message}
use Rattle.change_buffer.specs.Commits as buffer
use Rattle.change_buffer.specs.Offers as offers
use Rattle.change_buffer.specs.declared.feed_state.FeedState.{FeedState}
use Rattle.change_buffer.specs.declared.offer_fault.OfferFault.{OfferFault}
use Rattle.commit_desk.specs.Desks.{answer_of, has_pending, slot_of, state_of}

-- ---- what is pending

same_numbered : (number : ℕ) (pending : Option Message) → buffer.numbered number pending ≡ numbered number pending
same_numbered number None = refl
same_numbered number (Some message) = refl

same_pending : (number : ℕ) (states : List FeedState) → buffer.pending_from number states ≡ pending_from number (map slot_of states)
unfolding pending_from
same_pending number [] = refl
same_pending number (state ∷ states) = rw (same_numbered number state.pending, same_pending (suc number) states) refl

pub pending_is : (states : List FeedState) → buffer.pending_of states ≡ pending_in (map slot_of states)
pending_is states = same_pending 1 states

none_from : (number : ℕ) (states : List FeedState) → list_any offers.is_pending states ≡ false → pending_from number (map slot_of states) ≡ []
unfolding pending_from
none_from number [] none = refl
none_from number (state ∷ states) none = from state.pending refl (none_from (suc number) states)
  where
    from : (pending : Option Message) → state.pending ≡ pending → (list_any offers.is_pending states ≡ false → pending_from (suc number) (map slot_of states) ≡ [])
        → numbered number state.pending ++ pending_from (suc number) (map slot_of states) ≡ []
    from None e rest = let later : list_any offers.is_pending states ≡ false = rw e at none in rw (e, rest later) refl
    from (Some message) e rest = absurd (let never = rw e at none in cc)

-- a list that has an item
abbrev pub HasFirst : List (ℕ × Message) → Type 0
HasFirst messages = (first : ℕ × Message) × (rest : List (ℕ × Message)) × (messages ≡ first ∷ rest)

some_from : (number : ℕ) (states : List FeedState) → list_any offers.is_pending states ≡ true → HasFirst (pending_from number (map slot_of states))
unfolding pending_from
some_from number [] some = absurd cc
some_from number (state ∷ states) some = from state.pending refl (some_from (suc number) states)
  where
    from : (pending : Option Message) → state.pending ≡ pending → (list_any offers.is_pending states ≡ true → HasFirst (pending_from (suc number) (map slot_of states)))
        → HasFirst (numbered number state.pending ++ pending_from (suc number) (map slot_of states))
    from None e rest = let later : list_any offers.is_pending states ≡ true = rw e at some in rw e (rest later)
    from (Some message) e rest = rw e ((number, message), pending_from (suc number) (map slot_of states), refl)

-- whether a buffer has something pending
pub pending_told : (states : List FeedState) → list_any offers.is_pending states ≡ has_pending (pending_in (map slot_of states))
pending_told states = from (list_any offers.is_pending states) refl
  where
    from : (some : Bool) → list_any offers.is_pending states ≡ some → list_any offers.is_pending states ≡ has_pending (pending_in (map slot_of states))
    from true e = let first = some_from 1 states e in rw (e, first.2) refl
    from false e = rw (e, none_from 1 states e) refl

pub none_pending : (states : List FeedState) → list_any offers.is_pending states ≡ false → pending_in (map slot_of states) ≡ []
none_pending states none = none_from 1 states none

pub some_pending : (states : List FeedState) → list_any offers.is_pending states ≡ true → pending_in (map slot_of states) ≢ []
some_pending states some e = let first = some_from 1 states some in let never = sym first.2 ∙ e in cc

-- ---- a desk of which nothing was accepted

pub fresh_is : (feeds : ℕ) → state_of (replicate feeds offers.fresh) [] ≡ fresh_desk feeds
fresh_is feeds = ap (λ slots. record { history = []; slots = slots }) (from feeds)
  where
    from : (count : ℕ) → map slot_of (replicate count offers.fresh) ≡ replicate count fresh_slot
    from zero = refl
    from (suc count) = ap (λ slots. fresh_slot ∷ slots) (from count)

-- ---- an offer

same_above : (kept timestamp : Option ℕ) → offers.above_of kept timestamp ≡ above_of kept timestamp
same_above None timestamp = refl
same_above (Some kept) None = refl
same_above (Some kept) (Some timestamp) = refl

same_counted : (above : Option ℕ) (accepted : ℕ) → offers.counted above accepted ≡ answer_of (counted above accepted)
same_counted (Some have) accepted = refl
same_counted None accepted =
    by_test (nat_lt accepted (2 ^ 40))
    (λ t. let few : nat_le (2 ^ 40) accepted ≡ false = grind (arith, nat_tests) in rw (t, few) refl)
    (λ f. let spent : nat_le (2 ^ 40) accepted ≡ true = grind (arith, nat_tests) in rw (f, spent) refl)

pub same_answer : (state : FeedState) (message : Message) → offers.answer_to state message ≡ answer_of (acceptance (slot_of state) message)
same_answer state message = ap (λ above. offers.counted above state.accepted) (same_above state.timestamp message.timestamp) ∙ same_counted (above_of state.timestamp message.timestamp) state.accepted

-- the slot of a feed after an offer
offered_slot : (state changed : FeedState) (message : Message) (changes : List Change) (above : Option ℕ) → above_of state.timestamp message.timestamp ≡ above
    → OnOk (answer_of (counted above state.accepted)) (changed ≡ offers.with_message state message changes) → OnErr (answer_of (counted above state.accepted)) (changed ≡ state)
    → slot_of changed ≡ offered message (slot_of state)
offered_slot state changed message changes (Some have) e ok err = rw e (ap slot_of err)
offered_slot state changed message changes None e ok err =
    by_test (nat_lt state.accepted (2 ^ 40))
    (λ t. let accepted : changed ≡ offers.with_message state message changes = rw t at ok in rw (e, t) (ap slot_of accepted))
    (λ f. let refused : changed ≡ state = rw f at err in rw (e, f) (ap slot_of refused))

-- the slots once one feed was offered a message
slots_offered : (states : List FeedState) (place : ℕ) (state changed : FeedState) (message : Message) → slice_get states place ≡ Some state → slot_of changed ≡ offered message (slot_of state)
    → map slot_of (slice_set states place changed) ≡ offered_at place message (map slot_of states)
unfolding offered_at
slots_offered [] place state changed message found is = absurd (let never : ◌≡◌ {A = Option FeedState} None (Some state) = found in cc)
slots_offered (first ∷ states) zero state changed message found is =
    let same : first ≡ state = (let here : ◌≡◌ {A = Option FeedState} (Some first) (Some state) = found in cc) in
    ap (λ slot. slot ∷ map slot_of states) (is ∙ ap (λ (s : FeedState). offered message (slot_of s)) (sym same))
slots_offered (first ∷ states) (suc place) state changed message found is = ap (λ slots. slot_of first ∷ slots) (slots_offered states place state changed message found is)

unchanged : (states : List FeedState) (place : ℕ) (state : FeedState) → slice_get states place ≡ Some state → slice_set states place state ≡ states
unchanged [] place state found = refl
unchanged (first ∷ states) zero state found = let here : ◌≡◌ {A = Option FeedState} (Some first) (Some state) = found in let same : first ≡ state = cc in ap (λ s. s ∷ states) (sym same)
unchanged (first ∷ states) (suc place) state found = ap (λ rest. first ∷ rest) (unchanged states place state found)

slot_there : (states : List FeedState) (place : ℕ) (state : FeedState) → slice_get states place ≡ Some state → slice_get (map slot_of states) place ≡ Some (slot_of state)
slot_there [] place state found = absurd (let never : ◌≡◌ {A = Option FeedState} None (Some state) = found in cc)
slot_there (first ∷ states) zero state found = let here : ◌≡◌ {A = Option FeedState} (Some first) (Some state) = found in let same : first ≡ state = cc in ap (λ s. Some (slot_of s)) same
slot_there (first ∷ states) (suc place) state found = slot_there states place state found

pub there_is : (states : List FeedState) (place : ℕ) → place < length states → (state : FeedState) × (slice_get states place ≡ Some state)
there_is [] place less = absurd (omega (arith, less))
there_is (state ∷ states) zero less = (state, refl)
there_is (state ∷ states) (suc place) less = there_is states place (omega (arith, less))

-- what an offer does to the desk's state, and what it is answered
pub record IsOffered (states now : List FeedState) (history : History) (number : ℕ) (message : Message) (answer : Result ℕ OfferFault) : Type 0 where
  pub state : state_of now history ≡ accepts number message (state_of states history)
  pub answered : option_map answer_of (acceptance_by number message (state_of states history)) ≡ Some answer

pub is_offered : (states now : List FeedState) (history : History) (number place : ℕ) (message : Message) (changes : List Change) (answer : Result ℕ OfferFault) → number ≡ suc place → place < length states
    → ((state : FeedState) → slice_get states place ≡ Some state → answer ≡ offers.answer_to state message)
    → OnOk answer ((state : FeedState) → slice_get states place ≡ Some state → now ≡ slice_set states place (offers.with_message state message changes))
    → OnErr answer (now ≡ states) → IsOffered states now history number message answer
is_offered states now history number place message changes answer is less answered ok err =
    let found = there_is states place less in
    let state = found.0 in
    let told : answer ≡ answer_of (acceptance (slot_of state) message) = answered state found.1 ∙ same_answer state message in
    subst (λ n. IsOffered states now history n message answer) (sym is) (record {
      state = ap (λ slots. record { history = history; slots = slots }) (from state found.1 answer told ok err);
      answered = ap (λ slot. option_map answer_of (option_map (λ s. acceptance s message) slot)) (slot_there states place state found.1) ∙ ap (λ a. Some a) (sym told);
    })
  where
    from : (state : FeedState) → slice_get states place ≡ Some state → (a : Result ℕ OfferFault) → a ≡ answer_of (acceptance (slot_of state) message)
        → OnOk a ((s : FeedState) → slice_get states place ≡ Some s → now ≡ slice_set states place (offers.with_message s message changes)) → OnErr a (now ≡ states)
        → map slot_of now ≡ offered_at place message (map slot_of states)
    from state found (Ok count) told ok err =
        let slot = offered_slot state (offers.with_message state message changes) message changes (above_of state.timestamp message.timestamp) refl (subst (λ r. OnOk r (offers.with_message state message changes ≡ offers.with_message state message changes)) told refl) (subst (λ r. OnErr r (offers.with_message state message changes ≡ state)) told tt) in
        ap (map slot_of) (ok state found) ∙ slots_offered states place state (offers.with_message state message changes) message found slot
    from state found (Err why) told ok err =
        let slot = offered_slot state state message changes (above_of state.timestamp message.timestamp) refl (subst (λ r. OnOk r (state ≡ offers.with_message state message changes)) told tt) (subst (λ r. OnErr r (state ≡ state)) told refl) in
        ap (map slot_of) (err ∙ sym (unchanged states place state found)) ∙ slots_offered states place state state message found slot

-- ---- a commit

pub nothing_commits : (states : List FeedState) (history : History) → list_any offers.is_pending states ≡ false → commits (state_of states history) ≡ state_of states history
nothing_commits states history none = rw (none_pending states none) refl

settled_slots : (states : List FeedState) → map slot_of (map offers.settled states) ≡ map emptied (map slot_of states)
settled_slots [] = refl
settled_slots (state ∷ states) = ap (λ slots. emptied (slot_of state) ∷ slots) (settled_slots states)

-- the state after a commit of what is pending
published_commits : (messages : List (ℕ × Message)) (desk : DeskState) → HasFirst messages → length desk.history < 2 ^ 40 → commits_of messages desk ≡ published messages desk
published_commits messages desk some room =
    let less : nat_lt (length desk.history) (2 ^ 40) ≡ true = grind (arith, nat_tests) in
    subst (λ ms. commits_of ms desk ≡ published ms desk) (sym some.2) (rw less refl)

pub pending_commits : (states : List FeedState) (history : History) → pending_in (map slot_of states) ≢ [] → length history < 2 ^ 40
    → commits (state_of states history) ≡ published (pending_in (map slot_of states)) (state_of states history)
pending_commits states history some room = from (pending_in (map slot_of states)) some
  where
    from : (messages : List (ℕ × Message)) → messages ≢ [] → commits_of messages (state_of states history) ≡ published messages (state_of states history)
    from [] some = absurd (some refl)
    from (message ∷ messages) some = published_commits (message ∷ messages) (state_of states history) (message, messages, refl) room

pub settled_is : (states : List FeedState) (history : History) (commit : Commit) → pending_in (map slot_of states) ≢ [] → length history < 2 ^ 40 → commit.messages ≡ pending_in (map slot_of states)
    → state_of (map offers.settled states) (history ++ commit ∷ []) ≡ commits (state_of states history)
settled_is states history commit some room is =
    let same : commit ≡ record { messages = pending_in (map slot_of states) } = (λ i. record { messages = is i }) in
    let now : state_of (map offers.settled states) (history ++ commit ∷ []) ≡ published (pending_in (map slot_of states)) (state_of states history) =
    (λ i. record { history = history ++ same i ∷ []; slots = settled_slots states i }) in
    now ∙ sym (pending_commits states history some room)
