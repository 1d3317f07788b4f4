-- A message more, committed by itself.
use Rattle.std.proofs.Common.{◌≡◌, ◌≢◌, ℕ, zero, suc, ◌+◌, ◌-◌, ◌<◌, ◌≤◌, ◌^◌, Bool, true, false, not, nat_le, true≢false, ◌==◌, if◌then◌else◌, List, [], ◌∷◌, ◌++◌, length, map, set, get_or, slice_get, slice_set, replicate, Option, Some, None, Result, Ok, Err, OnOk, inl, inr, refl, sym, ap, subst, ◌∙◌, arith}
use Rattle.std.specs.List.{All, filter, flat_map}
use Rattle.std.specs.List.Sorted.{IsPermutation}
use Rattle.std.proofs.lemmas.List.{append-nil, get_or-map, get_or-set_same, get_or-set_other, get_or-replicate, length-append, length-map, length-replicate, length-set, map_push}
use Rattle.std.proofs.lemmas.List.Elements.{All-map, All-set, All-weaker}
use Rattle.std.proofs.lemmas.Bool.{eqb-true, leb-true}
use Rattle.std.proofs.lemmas.Bool.Decides.{eqb_tells}
use Rattle.std.proofs.lemmas.List.Sorted.{IsPermutation-append, IsPermutation-refl}
use Rattle.std.proofs.lemmas.Option.{slice_get-get_or}
use Rattle.change_buffer.specs.Commits.{IsCommitted, pending_from, pending_of}
use Rattle.change_buffer.specs.Forms.{AreResolved}
use Rattle.change_buffer.specs.Offers.{above_of, answer_to, counted, fresh, settled, with_message}
use Rattle.change_buffer.specs.declared.feed_state.FeedState.{FeedState}
use Rattle.change_buffer.specs.declared.offer_fault.OfferFault.{OfferFault}
use Rattle.change_buffer.specs.declared.offer_fault.OfferFault.TheVariants.{Older, CountSpent}
use Rattle.otp_model.specs.Moves.{first_of}
use Rattle.otp_model.specs.Patterns.{is_changed, run_changed, with_changes}
use Rattle.otp_model.specs.Schedule.{added_names, form_up_to, in_order, latest_or, most_feed, planned_run, sched}
use Rattle.otp_model.specs.declared.change.Change.{Change}
use Rattle.otp_model.specs.declared.message.Commit.{Commit}
use Rattle.otp_model.specs.declared.message.Message.{Message}
use Rattle.otp_model.specs.declared.timetable.Feed.{Feed}
use Rattle.otp_model.specs.declared.timetable.Run.{Run}
use Rattle.snapshot_store.proofs.OrderLemmas.{flat_permutation}
use Rattle.snapshot_store.specs.Snapshots.{runs_of}
use Rattle.otp_server.specs.Messages.{IsAfter, IsSettled, Told, commit_of, history_of, timestamp_after, timestamp_from, timestamp_of}
use Rattle.otp_server.specs.declared.committed.Committed.{Committed}

-- ---- schedules in any order

filter_flat : (p : Run → Bool) (runs : List Run) → filter p runs ≡ flat_map (λ (run : Run). if p run then run ∷ [] else []) runs
filter_flat p [] = refl
filter_flat p (run ∷ runs) = from (p run) refl (filter_flat p runs)
  where
    from : (b : Bool) → p run ≡ b → filter p runs ≡ flat_map (λ (run : Run). if p run then run ∷ [] else []) runs
        → filter p (run ∷ runs) ≡ flat_map (λ (run : Run). if p run then run ∷ [] else []) (run ∷ runs)
    from true e h = rw e (ap (λ rs. run ∷ rs) h)
    from false e h = rw e h

-- the same changes of the same runs in another order
pub changed_permuted : (a b : List Run) (changes : List Change) → IsPermutation a b → IsPermutation (with_changes a changes) (with_changes b changes)
changed_permuted a b changes same =
    let keeps : Run → Bool = λ (run : Run). not (is_changed changes run) in
    let each : Run → List Run = λ (run : Run). if keeps run then run ∷ [] else [] in
    let kept : IsPermutation (filter keeps a) (filter keeps b) = rw (filter_flat keeps a, filter_flat keeps b) (flat_permutation each a b same) in
    IsPermutation-append (filter keeps a) (filter keeps b) (flat_map run_changed changes) (flat_map run_changed changes) kept (IsPermutation-refl (flat_map run_changed changes))

-- ---- the buffer

no_pending : (number : ℕ) (told : List Told) (states : List FeedState) → All (IsSettled told) states → pending_from number states ≡ []
no_pending number told [] all = refl
no_pending number told (state ∷ states) all =
    let first : state.pending ≡ None = (all 0 state (omega arith)).none in
    let rest = no_pending (suc number) told states (λ k d less. all (suc k) d (omega (arith, less))) in
    rw (first, rest) refl

one_pending : (number place : ℕ) (told : List Told) (states : List FeedState) (state : FeedState) (message : Message) (changes : List Change) → place < length states → All (IsSettled told) states
    → pending_from number (set states place (with_message state message changes)) ≡ (number + place, message) ∷ []
one_pending number place told [] state message changes less all = absurd (omega (arith, less))
one_pending number zero told (first ∷ states) state message changes less all =
    let rest = no_pending (suc number) told states (λ k d l. all (suc k) d (omega (arith, l))) in
    let at : number + 0 ≡ number = omega arith in
    rw (rest, at) refl
one_pending number (suc place) told (first ∷ states) state message changes less all =
    let none : first.pending ≡ None = (all 0 first (omega arith)).none in
    let rest = one_pending (suc number) place told states state message changes (omega (arith, less)) (λ k d l. all (suc k) d (omega (arith, l))) in
    let at : suc number + place ≡ number + suc place = omega arith in
    rw (none, rest, at) refl

-- a feed of few messages is not spent
pub not_spent : (state : FeedState) (message : Message) → state.accepted < 2 ^ 40 → answer_to state message ≡ Err CountSpent → ⊥
not_spent state message few h = from (above_of state.timestamp message.timestamp) h
  where
    from : (kept : Option ℕ) → counted kept state.accepted ≡ Err CountSpent → ⊥
    from None e = spent (nat_le (2 ^ 40) state.accepted) refl e
      where
        spent : (b : Bool) → nat_le (2 ^ 40) state.accepted ≡ b → (if b then Err CountSpent else Ok (state.accepted + 1)) ≡ Err CountSpent → ⊥
        spent true e h = let le = leb-true (2 ^ 40) state.accepted e in omega (arith, le, few)
        spent false e h = cc
    from (Some have) e = cc

-- a message that was accepted isn't older, and one that is refused as older is
pub accepted_is : (state : FeedState) (message : Message) (count : ℕ) → answer_to state message ≡ Ok count → above_of state.timestamp message.timestamp ≡ None
accepted_is state message count h = from (above_of state.timestamp message.timestamp) refl h
  where
    from : (kept : Option ℕ) → above_of state.timestamp message.timestamp ≡ kept → counted kept state.accepted ≡ Ok count → kept ≡ None
    from None e k = refl
    from (Some have) e k = absurd (let never : ◌≡◌ {A = Result ℕ OfferFault} (Err (Older have)) (Ok count) = k in cc)

pub older_is : (state : FeedState) (message : Message) (have : ℕ) → answer_to state message ≡ Err (Older have) → above_of state.timestamp message.timestamp ≡ Some have
older_is state message have h = from (above_of state.timestamp message.timestamp) h
  where
    from : (kept : Option ℕ) → counted kept state.accepted ≡ Err (Older have) → kept ≡ Some have
    from (Some other) k = let same : ◌≡◌ {A = Result ℕ OfferFault} (Err (Older other)) (Err (Older have)) = k in let is : other ≡ have = cc in ap (λ n. Some n) is
    from None k = spent (nat_le (2 ^ 40) state.accepted) k
      where
        spent : (b : Bool) → (if b then Err CountSpent else Ok (state.accepted + 1)) ≡ Err (Older have) → None ≡ Some have
        spent true h = absurd (let never : ◌≡◌ {A = Result ℕ OfferFault} (Err CountSpent) (Err (Older have)) = h in cc)
        spent false h = absurd (let never : ◌≡◌ {A = Result ℕ OfferFault} (Ok (state.accepted + 1)) (Err (Older have)) = h in cc)

-- ---- timestamps

timestamp_more : (number : ℕ) (kept : Option ℕ) (told : List Told) (one : Told)
    → timestamp_from number kept (told ++ one ∷ []) ≡ timestamp_after number (timestamp_from number kept told) one
unfolding timestamp_from
timestamp_more number kept [] one = refl
timestamp_more number kept (first ∷ told) one = timestamp_more number (timestamp_after number kept first) told one

-- ---- one message more

same_eqb : (a b : ℕ) → a ≡ b → (a == b) ≡ true
same_eqb a b h = elim (eqb_tells a b) [ inl same ↦ same.0 | inr other ↦ absurd (other.1 h) ]

other_eqb : (a b : ℕ) → (a == b) ≡ false → (suc a == suc b) ≡ false
other_eqb a b h = elim (eqb_tells (suc a) (suc b)) [
  | inl same ↦ absurd (true≢false (sym (same_eqb a b (let e = same.1 in omega (arith, e))) ∙ h))
  | inr other ↦ other.0
]

-- the state of a feed that is looked up, where a message was offered to some feed and what is pending was settled
offered_at : (states : List FeedState) (place k : ℕ) (state d : FeedState) (message : Message) (changes : List Change) → place < length states → state ≡ get_or states place d → k < length states
    → (get_or (map settled (set states place (with_message state message changes))) k d).timestamp ≡ (if place == k then first_of message.timestamp state.timestamp else (get_or states k d).timestamp)
offered_at states place k state d message changes less is within =
    let offered = set states place (with_message state message changes) in
    let one : get_or (map settled offered) k d ≡ settled (get_or offered k d) = get_or-map settled offered k d d (omega (arith, within, length-set states place (with_message state message changes))) in
    ap (λ (s : FeedState). s.timestamp) one ∙ from (place == k) refl
  where
    from : (b : Bool) → (place == k) ≡ b
        → (settled (get_or (set states place (with_message state message changes)) k d)).timestamp ≡ (if b then first_of message.timestamp state.timestamp else (get_or states k d).timestamp)
    from true e =
        let at : place ≡ k = eqb-true place k e in
        ap (λ (s : FeedState). s.timestamp) (subst (λ n. get_or (set states place (with_message state message changes)) n d ≡ with_message state message changes) at (get_or-set_same states place (with_message state message changes) d less))
    from false e =
        let apart : k ≢ place = λ h. true≢false (sym (same_eqb place k (sym h)) ∙ e) in
        ap (λ (s : FeedState). s.timestamp) (get_or-set_other states place k (with_message state message changes) d apart)

module _ (feed : Feed) (feeds number : ℕ) (told : List Told) (message : Message) (changes : List Change) (kept next : Committed) (state : FeedState)
    (after : IsAfter feed feeds told kept) (first : 1 ≤ number) (last : number ≤ length kept.buffer)
    (state_is : slice_get kept.buffer (number - 1) ≡ Some state) where
  abbrev place : ℕ
  place = number - 1

  less : place < length kept.buffer
  less = let p : place ≡ number - 1 = refl in omega (arith, first, last, p)

  number_is : number ≡ suc place
  number_is = let p : place ≡ number - 1 = refl in omega (arith, first, p)

  own : state ≡ get_or kept.buffer place state
  own = let same : ◌≡◌ {A = Option FeedState} (Some state) (Some (get_or kept.buffer place state)) = sym state_is ∙ slice_get-get_or kept.buffer place state less in cc

  pub own_timestamp : state.timestamp ≡ timestamp_of told number
  own_timestamp = ap (λ (s : FeedState). s.timestamp) own ∙ after.timestamps place state less ∙ ap (timestamp_of told) (sym number_is)

  pub own_few : state.accepted ≤ length told
  own_few = subst (λ (s : FeedState). s.accepted ≤ length told) (sym own) (after.settled place state less).few

  abbrev offered : List FeedState
  offered = slice_set kept.buffer (number - 1) (with_message state message changes)

  -- what is pending then
  pub pending_is : pending_of offered ≡ (number, message) ∷ []
  pending_is = one_pending 1 place told kept.buffer state message changes less after.settled ∙ (let n : 1 + place ≡ number = omega (arith, number_is) in ap (λ m. (m, message) ∷ []) n)

  next_settled : All (IsSettled (told ++ (number, message) ∷ [])) (map settled offered)
  next_settled =
      All-map (IsSettled (told ++ (number, message) ∷ [])) settled offered
      (All-set (λ s. IsSettled (told ++ (number, message) ∷ []) (settled s)) kept.buffer place (with_message state message changes)
      (record { few = grown own_few; none = refl })
      (All-weaker (IsSettled told) (λ s. IsSettled (told ++ (number, message) ∷ []) (settled s)) (λ s h. record { few = still h.few; none = refl }) kept.buffer after.settled))
    where
      longer : length (told ++ (number, message) ∷ []) ≡ length told + 1
      longer = length-append told ((number, message) ∷ [])

      grown : {n : ℕ} → n ≤ length told → n + 1 ≤ length (told ++ (number, message) ∷ [])
      grown h = omega (arith, h, longer)

      still : {n : ℕ} → n ≤ length told → n ≤ length (told ++ (number, message) ∷ [])
      still h = omega (arith, h, longer)

  next_timestamps : (k : ℕ) (d : FeedState) → k < length (map settled offered) → (get_or (map settled offered) k d).timestamp ≡ timestamp_of (told ++ (number, message) ∷ []) (suc k)
  next_timestamps k d within =
      let short : k < length kept.buffer = omega (arith, within, length-map offered settled, length-set kept.buffer place (with_message state message changes)) in
      let own_d : state ≡ get_or kept.buffer place d = (let same : ◌≡◌ {A = Option FeedState} (Some state) (Some (get_or kept.buffer place d)) = sym state_is ∙ slice_get-get_or kept.buffer place d less in cc) in
      offered_at kept.buffer place k state d message changes less own_d short
      ∙ from (place == k) refl short
      ∙ sym (timestamp_more (suc k) None told (number, message))
    where
      from : (b : Bool) → (place == k) ≡ b → k < length kept.buffer
          → (if b then first_of message.timestamp state.timestamp else (get_or kept.buffer k d).timestamp) ≡ timestamp_after (suc k) (timestamp_of told (suc k)) (number, message)
      from true e short =
          let at : place ≡ k = eqb-true place k e in
          let here : (number == suc k) ≡ true = subst (λ n. (n == suc k) ≡ true) (sym number_is) (subst (λ n. (suc place == suc n) ≡ true) at (same_eqb (suc place) (suc place) refl)) in
          let kept_is : state.timestamp ≡ timestamp_of told (suc k) = own_timestamp ∙ ap (timestamp_of told) (number_is ∙ ap suc at) in
          ap (first_of message.timestamp) kept_is ∙ sym (ap (λ (b : Bool). if b then first_of message.timestamp (timestamp_of told (suc k)) else timestamp_of told (suc k)) here)
      from false e short =
          let away : (number == suc k) ≡ false = subst (λ n. (n == suc k) ≡ false) (sym number_is) (other_eqb place k e) in
          after.timestamps k d short ∙ sym (ap (λ (b : Bool). if b then first_of message.timestamp (timestamp_of told (suc k)) else timestamp_of told (suc k)) away)

  -- what is kept once the message was committed
  pub next_after : next.buffer ≡ map settled offered
      → ((history : List Commit) (commit : Commit) → commit.messages ≡ pending_of offered → IsCommitted offered history → IsCommitted next.buffer (history ++ commit ∷ []))
      → ((history : List Commit) (commit : Commit) → commit.messages ≡ pending_of offered → IsCommitted offered history → IsPermutation (sched feed history) (runs_of kept.snapshot)
      → IsPermutation (sched feed (history ++ commit ∷ [])) (runs_of next.snapshot))
      → IsCommitted offered (history_of told) → AreResolved feed next.buffer → IsAfter feed feeds (told ++ (number, message) ∷ []) next
  next_after buffer_is committed stands same resolved =
      let grown : history_of (told ++ (number, message) ∷ []) ≡ history_of told ++ commit_of (number, message) ∷ [] = map_push commit_of told (number, message) in
      record {
        feeds_are = ap length buffer_is ∙ length-map offered settled ∙ length-set kept.buffer place (with_message state message changes) ∙ after.feeds_are;
        committed = subst (IsCommitted next.buffer) (sym grown) (committed (history_of told) (commit_of (number, message)) (sym pending_is) same);
        resolved = resolved;
        settled = subst (All (IsSettled (told ++ (number, message) ∷ []))) (sym buffer_is) next_settled;
        timestamps = subst (λ (states : List FeedState). (k : ℕ) (d : FeedState) → k < length states → (get_or states k d).timestamp ≡ timestamp_of (told ++ (number, message) ∷ []) (suc k))
            (sym buffer_is) next_timestamps;
        stands = subst (λ h. IsPermutation (sched feed h) (runs_of next.snapshot)) (sym grown)
            (stands (history_of told) (commit_of (number, message)) (sym pending_is) same after.stands);
      }

-- ---- no message

-- without a history the schedule is that of the feed
one_base : (feed : Feed) (run : Run) → planned_run feed [] run ≡ run ∷ []
unfolding form_up_to latest_or most_feed
one_base feed run = refl

all_base : (feed : Feed) (runs : List Run) → flat_map (planned_run feed []) runs ≡ runs
all_base feed [] = refl
all_base feed (run ∷ runs) = rw (one_base feed run, all_base feed runs) refl

no_added : (feed : Feed) → added_names feed [] ≡ []
unfolding in_order latest_or most_feed
no_added feed = refl

pub base_sched : (feed : Feed) → sched feed [] ≡ feed.runs
base_sched feed = rw (all_base feed feed.runs, no_added feed) (append-nil feed.runs)

-- a buffer of which nothing was accepted, and the snapshot of the feed's runs
pub fresh_after : (feed : Feed) (feeds : ℕ) (kept : Committed) → kept.buffer ≡ replicate feeds fresh → IsCommitted kept.buffer [] → AreResolved feed kept.buffer → IsPermutation feed.runs (runs_of kept.snapshot) → IsAfter feed feeds [] kept
unfolding timestamp_from
fresh_after feed feeds kept is committed resolved stands = record {
  feeds_are = ap length is ∙ length-replicate feeds fresh;
  committed = committed;
  resolved = resolved;
  settled = subst (All (IsSettled [])) (sym is) (λ k d less. rw (get_or-replicate feeds k fresh d (subst (λ n. k < n) (length-replicate feeds fresh) less)) (record { few = omega arith; none = refl }));
  timestamps = subst (λ (states : List FeedState). (k : ℕ) (d : FeedState) → k < length states → (get_or states k d).timestamp ≡ None) (sym is)
      (λ k d less. ap (λ (s : FeedState). s.timestamp) (get_or-replicate feeds k fresh d (subst (λ n. k < n) (length-replicate feeds fresh) less)));
  stands = subst (λ runs. IsPermutation runs (runs_of kept.snapshot)) (sym (base_sched feed)) stands;
}

-- ---- what a call's answer says

pub some_at : {X : Type 0} (xs : List X) (i : ℕ) → i < length xs → (x : X) × (slice_get xs i ≡ Some x)
some_at [] i less = absurd (omega (arith, less))
some_at (x ∷ xs) zero less = (x, refl)
some_at (x ∷ xs) (suc i) less = some_at xs i (omega (arith, less))

pub place_within : (number : ℕ) (states : List FeedState) → 1 ≤ number → number ≤ length states → number - 1 < length states
place_within number states first last = omega (arith, first, last)

pub all_on : {X E : Type 0} {A B C D F : Type 0} (r : Result X E) → OnOk r A → OnOk r B → OnOk r C → OnOk r D → (A → B → C → D → F) → OnOk r F
all_on (Ok x) a b c d f = f a b c d
all_on (Err e) a b c d f = tt
