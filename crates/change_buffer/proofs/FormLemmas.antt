-- What the feeds say of a name after a history, by the changes that their messages make.
use Rattle.std.proofs.Common.{◌≡◌, ℕ, ◌+◌, ◌-◌, suc, zero, List, [], ◌∷◌, ◌++◌, map, length, Option, Some, None, unwrap_or, refl, sym, ◌∙◌, ap, arith}
use Rattle.std.specs.List.{slice_get}
use Rattle.std.specs.Option.{option_map, option_map_or}
use Rattle.std.proofs.lemmas.List.Elements.{All-head, All-tail}
use Rattle.otp_model.specs.Moves.{first_of}
use Rattle.otp_model.specs.Names.{run_name_cmp}
use Rattle.otp_model.specs.Resolution.{changes_of, form}
use Rattle.otp_model.specs.Schedule.{calls_in, form_after, form_by, form_up_to, most_feed, sched}
use Rattle.otp_model.specs.Sound.{IsSound}
use Rattle.otp_model.specs.declared.change.Change.{Change}
use Rattle.otp_model.specs.declared.message.Commit.{Commit}
use Rattle.otp_model.specs.declared.message.Message.{Message}
use Rattle.otp_model.specs.declared.run_name.RunName.{RunName}
use Rattle.otp_model.specs.declared.timetable.Call.{Call}
use Rattle.otp_model.specs.declared.timetable.Feed.{Feed}
use Rattle.otp_model.proofs.RisingLemmas.{IsIn, rises}
use Rattle.change_buffer.specs.Commits.{IsCommitted, committed_of}
use Rattle.change_buffer.specs.Forms.{AreResolved, AreSaid, ArePending, IsResolved, calls_before, calls_now, form_before, form_in, form_now, in_force, last_given, names_changed, names_pending}
use Rattle.change_buffer.specs.Offers.{settled}
use Rattle.change_buffer.specs.declared.feed_state.FeedState.{FeedState}
use Rattle.change_buffer.proofs.HistoryLemmas.{form_above}
use Rattle.change_buffer.proofs.KnownLemmas.{change_name}
use Rattle.change_buffer.proofs.NamedLemmas.{in_named, named, named_permuted, rising_apart}
use Rattle.change_buffer.proofs.OrderLemmas.{in_left, in_right}
use Rattle.change_buffer.proofs.ScheduleLemmas.{sched_calls}

module _ {Y : Type 0} where
  pub first_none : (o : Option Y) → first_of o None ≡ o
  first_none None = refl
  first_none (Some y) = refl

  first_assoc : (a b c : Option Y) → first_of a (first_of b c) ≡ first_of (first_of a b) c
  first_assoc None b c = refl
  first_assoc (Some y) b c = refl

  -- what the greatest number gives, of those up to a number that give something
  abbrev up_to : (ℕ → Option Y) → ℕ → Option Y
  up_to give zero = give 0
  up_to give (suc number) = first_of (give (suc number)) (up_to give number)

  up_to_front : (give : ℕ → Option Y) (number : ℕ) → up_to give (suc number) ≡ first_of (up_to (λ k. give (suc k)) number) (give 0)
  up_to_front give zero = refl
  up_to_front give (suc number) =
      ap (first_of (give (suc (suc number)))) (up_to_front give number) ∙ first_assoc (give (suc (suc number))) (up_to (λ k. give (suc k)) number) (give 0)

module _ {X Y : Type 0} (give : X → Option Y) where
  abbrev given_at : List X → ℕ → Option Y
  given_at xs place = option_map_or give (slice_get xs place) None

  up_to_list : (x : X) (xs : List X) → up_to (given_at (x ∷ xs)) (length xs) ≡ last_given give (x ∷ xs)
  up_to_list x [] = refl
  up_to_list x (y ∷ ys) = up_to_front (given_at (x ∷ y ∷ ys)) (length ys) ∙ ap (λ o. first_of o (give x)) (up_to_list y ys)

  -- one more item
  pub last_given_push : (xs : List X) (x : X) → last_given give (xs ++ x ∷ []) ≡ first_of (give x) (last_given give xs)
  last_given_push [] x = sym (first_none (give x))
  last_given_push (y ∷ ys) x = ap (λ o. first_of o (give y)) (last_given_push ys x) ∙ sym (first_assoc (give x) (last_given give ys) (give y))

-- what a message, if there is one, says of a name
abbrev pub said : Feed → RunName → Option Message → Option (Option (List Call))
said feed name message = option_map_or (λ (m : Message). form feed m name) message None

form_is_up_to : (feed : Feed) (history : List Commit) (name : RunName) (number : ℕ) → form_up_to feed history number name ≡ up_to (λ k. form_by feed history k name) number
unfolding form_up_to
form_is_up_to feed history name zero = refl
form_is_up_to feed history name (suc number) = ap (first_of (form_by feed history (suc number) name)) (form_is_up_to feed history name number)

by_list : (feed : Feed) (name : RunName) (states : List FeedState) → up_to (λ k. said feed name (committed_of states k)) (length states) ≡ last_given (λ (state : FeedState). said feed name state.committed) states
by_list feed name [] = refl
by_list feed name (state ∷ states) =
    up_to_front (λ k. said feed name (committed_of (state ∷ states) k)) (length states)
    ∙ first_none (up_to (λ k. said feed name (committed_of (state ∷ states) (suc k))) (length states))
    ∙ ap (λ (give : ℕ → Option (Option (List Call))). up_to give (length states)) (λ i k. same (slice_get (state ∷ states) k) i)
    ∙ up_to_list (λ (s : FeedState). said feed name s.committed) state states
  where
    same : (o : Option FeedState) → said feed name (option_map_or (λ (s : FeedState). s.committed) o None) ≡ option_map_or (λ (s : FeedState). said feed name s.committed) o None
    same None = refl
    same (Some s) = refl

-- the form of a name is what the last feed says by its committed message, of those that say something
pub form_committed : (feed : Feed) (states : List FeedState) (history : List Commit) (name : RunName) → IsCommitted states history
    → form_after feed history name ≡ last_given (λ (state : FeedState). said feed name state.committed) states
form_committed feed states history name committed =
    let few = committed.feeds in
    let e : (length states - most_feed history) + most_feed history ≡ length states = omega arith in
    sym (form_above feed history name (length states - most_feed history))
    ∙ ap (λ (n : ℕ). form_up_to feed history n name) e
    ∙ form_is_up_to feed history name (length states)
    ∙ ap (λ (give : ℕ → Option (Option (List Call))). up_to give (length states)) (λ i k. said feed name (committed.messages k i))
    ∙ by_list feed name states

said_is : (feed : Feed) (name : RunName) (message : Option Message) (changes : List Change) → AreSaid feed message changes → said feed name message ≡ form_in changes name
said_is feed name None changes are = ap (λ (cs : List Change). form_in cs name) (sym are)
said_is feed name (Some message) changes are =
    ap (option_map (λ (change : Change). change.calls))
    (named_permuted change_name (changes_of feed message) changes are.same (rising_apart change_name changes (rises run_name_cmp change_name changes are.rise)) name)

said_now : (feed : Feed) (name : RunName) (committed pending : Option Message) (changes : List Change) (later : Option (List Change)) → AreSaid feed committed changes → ArePending feed pending later
    → said feed name (first_of pending committed) ≡ form_in (unwrap_or later changes) name
said_now feed name committed None changes None are more = said_is feed name committed changes are
said_now feed name committed None changes (Some later) are more = absurd more
said_now feed name committed (Some message) changes None are more = absurd more
said_now feed name committed (Some message) changes (Some later) are more = said_is feed name (Some message) later more

before_is : (feed : Feed) (name : RunName) (states : List FeedState) → AreResolved feed states → last_given (λ (state : FeedState). said feed name state.committed) states ≡ form_before states name
before_is feed name [] are = refl
before_is feed name (state ∷ states) are =
    λ i. first_of (before_is feed name states (All-tail (IsResolved feed) state states are) i)
    (said_is feed name state.committed state.said.committed (All-head (IsResolved feed) state states are).committed i)

now_is : (feed : Feed) (name : RunName) (states : List FeedState) → AreResolved feed states
    → last_given (λ (state : FeedState). said feed name state.committed) (map settled states) ≡ form_now states name
now_is feed name [] are = refl
now_is feed name (state ∷ states) are =
    let own = All-head (IsResolved feed) state states are in
    λ i. first_of (now_is feed name states (All-tail (IsResolved feed) state states are) i)
    (said_now feed name state.committed state.pending state.said.committed state.said.pending own.committed own.pending i)

module _ (feed : Feed) (states : List FeedState) (history : List Commit) (sound : IsSound feed) (are : AreResolved feed states) where
  -- the calls of a name where the states' committed messages are the history's
  pub calls_committed : IsCommitted states history → (name : RunName) → calls_in (sched feed history) name ≡ calls_before feed states name
  calls_committed committed name =
      sched_calls feed history sound name
      ∙ ap (λ o. in_force o (calls_in feed.runs name)) (form_committed feed states history name committed ∙ before_is feed name states are)

  -- the same once the pending messages are the committed ones
  pub calls_settled : IsCommitted (map settled states) history → (name : RunName) → calls_in (sched feed history) name ≡ calls_now feed states name
  calls_settled committed name =
      sched_calls feed history sound name
      ∙ ap (λ o. in_force o (calls_in feed.runs name)) (form_committed feed (map settled states) history name committed ∙ now_is feed name states are)

unsaid : (changes : List Change) (name : RunName) → (IsIn name (map change_name changes) → ⊥) → form_in changes name ≡ None
unsaid changes name out = from (named change_name name changes) refl
  where
    from : (o : Option Change) → named change_name name changes ≡ o → form_in changes name ≡ None
    from None e = ap (option_map (λ (change : Change). change.calls)) e
    from (Some change) e = absurd (out (in_named change_name name changes change e))

-- of a name that isn't among the changed ones each feed says what it said
pub form_kept : (states : List FeedState) (name : RunName) → (IsIn name (names_changed states) → ⊥) → form_before states name ≡ form_now states name
form_kept [] name out = refl
form_kept (state ∷ states) name out =
    let front = names_pending state.said.committed state.said.pending in
    λ i. first_of (form_kept states name (λ j. out (in_right name front (names_changed states) j)) i)
    (own state.said.committed state.said.pending (λ j. out (in_left name front (names_changed states) j)) i)
  where
    own : (committed : List Change) (pending : Option (List Change)) → (IsIn name (names_pending committed pending) → ⊥) → form_in committed name ≡ form_in (unwrap_or pending committed) name
    own committed None out = refl
    own committed (Some pending) out =
        unsaid committed name (λ j. out (in_left name (map change_name committed) (map change_name pending) j))
        ∙ sym (unsaid pending name (λ j. out (in_right name (map change_name committed) (map change_name pending) j)))
