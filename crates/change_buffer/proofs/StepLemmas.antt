-- Steps of the loops over feeds, changes and names.
use Rattle.std.proofs.Common.{◌≡◌, ℕ, ◌+◌, ◌<◌, suc, zero, List, [], ◌∷◌, ◌++◌, map, take, length, get_or, Option, Some, None, Bor, refl, sym, ◌∙◌, ap, subst, append_assoc, arith}
use Rattle.std.specs.List.{All, AllPairs, Contains, dedup, flat_map}
use Rattle.std.specs.List.Sorted.{IsPermutation, IsSorted, IsStrictlySortedBy}
use Rattle.std.specs.Option.{option_map, option_or}
use Rattle.std.specs.declared.cmp.Ordering.TheVariants.{Less}
use Rattle.std.proofs.lemmas.Cmp.{eq_by_cmp_equiv}
use Rattle.std.proofs.lemmas.Grind.{flat_map-append}
use Rattle.std.proofs.lemmas.List.{append-nil, length-take-le, map_more, take_more}
use Rattle.std.proofs.lemmas.List.Elements.{All-from_recursion, All-weaker}
use Rattle.std.proofs.lemmas.List.Kept.{AllPairs-cons, Contains-dedup, IsStrictlySortedBy-dedup}
use Rattle.std.proofs.lemmas.List.Sorted.{Contains-permutation}
use Rattle.otp_model.specs.Moves.{first_of}
use Rattle.otp_model.specs.Names.{IsNameBelow, run_name_cmp}
use Rattle.otp_model.specs.Resolution.{is_same_name}
use Rattle.otp_model.specs.declared.change.Change.{Change}
use Rattle.otp_model.specs.declared.message.Message.{Message}
use Rattle.otp_model.specs.declared.run_name.RunName.{RunName}
use Rattle.otp_model.specs.declared.timetable.Call.{Call}
use Rattle.otp_model.specs.declared.timetable.Feed.{Feed}
use Rattle.otp_model.proofs.NameLemmas.{run_name_cmp_total}
use Rattle.change_buffer.specs.Commits.{numbered, pending_from, pending_of}
use Rattle.change_buffer.specs.Forms.{AreNamesChanged, ArePending, AreResolved, AreRising, AreSaid, HasRising, IsResolved, changes_now, form_in, last_given, names_changed}
use Rattle.change_buffer.specs.declared.feed_state.FeedState.{FeedState}
use Rattle.change_buffer.proofs.FormLemmas.{last_given_push}
use Rattle.change_buffer.proofs.KnownLemmas.{change_name}
use Rattle.change_buffer.proofs.NamedLemmas.{named, same_from}

module _ {X : Type 0} where
  -- a list up to an element that was read
  pub take_read : (xs : List X) (i : ℕ) (x : X) → i < length xs → x ≡ get_or xs i x → take (i + 1) xs ≡ take i xs ++ x ∷ []
  take_read xs i x less read = take_more xs i x less ∙ ap (λ (y : X). take i xs ++ y ∷ []) (sym read)

  pub map_read : {Y : Type 0} (f : X → Y) (front now later : List Y) (xs : List X) (i : ℕ) (x : X) (y : Y) → i < length xs → x ≡ get_or xs i x
      → now ≡ front ++ map f (take i xs) → y ≡ f x → later ≡ now ++ y ∷ [] → later ≡ front ++ map f (take (i + 1) xs)
  map_read {Y} f front now later xs i x y less read before made pushed =
      pushed
      ∙ (λ k. before k ++ made k ∷ [])
      ∙ append_assoc front (map f (take i xs)) (f x ∷ [])
      ∙ ap (λ (z : X). front ++ (map f (take i xs) ++ f z ∷ [])) read
      ∙ ap (λ (ys : List Y). front ++ ys) (sym (map_more f xs i x less))

  pub flat_read : {Y : Type 0} (f : X → List Y) (now later : List Y) (xs : List X) (i : ℕ) (x : X) → i < length xs → x ≡ get_or xs i x
      → now ≡ flat_map f (take i xs) → later ≡ now ++ f x → later ≡ flat_map f (take (i + 1) xs)
  flat_read {Y} f now later xs i x less read before pushed =
      pushed
      ∙ ap (λ (ys : List Y). ys ++ f x) before
      ∙ ap (λ (ys : List Y). flat_map f (take i xs) ++ ys) (sym (append-nil (f x)))
      ∙ sym (flat_map-append f (take i xs) (x ∷ []))
      ∙ ap (flat_map f) (sym (take_read xs i x less read))

  -- one more item of a list that is gone through by value
  pub flat_push : {Y : Type 0} (f : X → List Y) (now later : List Y) (xs : List X) (x : X) (y : List Y) → now ≡ flat_map f xs → y ≡ f x → later ≡ now ++ y → later ≡ flat_map f (xs ++ x ∷ [])
  flat_push {Y} f now later xs x y before made pushed =
      pushed
      ∙ (λ k. before k ++ made k)
      ∙ ap (λ (ys : List Y). flat_map f xs ++ ys) (sym (append-nil (f x)))
      ∙ sym (flat_map-append f xs (x ∷ []))

  pub given_read : {Y : Type 0} (give : X → Option Y) (given last : Option Y) (xs : List X) (i : ℕ) (x : X) → i < length xs → x ≡ get_or xs i x
      → given ≡ give x → last ≡ last_given give (take i xs) → first_of given last ≡ last_given give (take (i + 1) xs)
  given_read give given last xs i x less read is before =
      (λ k. first_of (is k) (before k))
      ∙ sym (last_given_push give (take i xs) x)
      ∙ ap (last_given give) (sym (take_read xs i x less read))

-- the calls of a change behind a reference

abbrev pub calls_behind : Bor Change → Option (List Call)
calls_behind change = change.now.calls

pub form_found : (found : Option (Bor Change)) (changes : List Change) (name : RunName) → option_map (λ (change : Bor Change). change.now) found ≡ named change_name name changes
    → option_map calls_behind found ≡ form_in changes name
form_found found changes name is = from found ∙ ap (option_map (λ (change : Change). change.calls)) is
  where
    from : (o : Option (Bor Change)) → option_map calls_behind o ≡ option_map (λ (change : Change). change.calls) (option_map (λ (change : Bor Change). change.now) o)
    from None = refl
    from (Some change) = refl

pub form_or : (a b c : Option (Bor Change)) → c ≡ option_or a b → option_map calls_behind c ≡ first_of (option_map calls_behind a) (option_map calls_behind b)
form_or None b c is = ap (option_map calls_behind) is
form_or (Some change) b c is = ap (option_map calls_behind) is

-- what is kept of the feeds rises

said_rises : (feed : Feed) (message : Option Message) (changes : List Change) → AreSaid feed message changes → AreRising changes
said_rises feed None changes are = subst AreRising (sym are) (λ i j d l m. absurd (omega arith))
said_rises feed (Some message) changes are = are.rise

now_rises : (feed : Feed) (message pending : Option Message) (committed : List Change) (changes : Option (List Change)) → AreSaid feed message committed → ArePending feed pending changes
    → AreRising (changes_now (record { committed = committed; pending = changes }))
now_rises feed message pending committed None are more = said_rises feed message committed are
now_rises feed message None committed (Some changes) are more = absurd more
now_rises feed message (Some later) committed (Some changes) are more = more.rise

pub resolved_rise : (feed : Feed) (states : List FeedState) → AreResolved feed states → All HasRising states
resolved_rise feed states are =
    All-weaker (IsResolved feed) HasRising
    (λ state is. record {
      committed = said_rises feed state.committed state.said.committed is.committed;
      now = now_rises feed state.committed state.pending state.said.committed state.said.pending is.committed is.pending;
    })
    states are

-- pending messages, one feed more

pending_push : (number : ℕ) (states : List FeedState) (state : FeedState) → pending_from number (states ++ state ∷ []) ≡ pending_from number states ++ numbered (number + length states) state.pending
pending_push number [] state = let e : number ≡ number + 0 = omega arith in append-nil (numbered number state.pending) ∙ ap (λ (n : ℕ). numbered n state.pending) e
pending_push number (first ∷ states) state =
    let e : suc number + length states ≡ number + length (first ∷ states) = omega arith in
    ap (λ (ms : List (ℕ × Message)). numbered number first.pending ++ ms) (pending_push (suc number) states state)
    ∙ sym (append_assoc (numbered number first.pending) (pending_from (suc number) states) (numbered (suc number + length states) state.pending))
    ∙ ap (λ (n : ℕ). (numbered number first.pending ++ pending_from (suc number) states) ++ numbered n state.pending) e

pub pending_read : (states : List FeedState) (now later : List (ℕ × Message)) (i : ℕ) (state : FeedState) → i < length states → state ≡ get_or states i state
    → now ≡ pending_of (take i states) → later ≡ now ++ numbered (i + 1) state.pending → later ≡ pending_of (take (i + 1) states)
pending_read states now later i state less read before pushed =
    let e : i + 1 ≡ 1 + length (take i states) = omega (arith, length-take-le i states (omega arith)) in
    pushed
    ∙ ap (λ (ms : List (ℕ × Message)). ms ++ numbered (i + 1) state.pending) before
    ∙ ap (λ (n : ℕ). pending_of (take i states) ++ numbered n state.pending) e
    ∙ sym (pending_push 1 (take i states) state)
    ∙ ap pending_of (sym (take_read states i state less read))

-- sorted names without repetitions

pairs_from_strict : (names : List RunName) → IsStrictlySortedBy run_name_cmp names → AllPairs IsNameBelow names
unfolding IsStrictlySortedBy
pairs_from_strict [] h = λ i j d l m. absurd (omega arith)
pairs_from_strict (name ∷ names) h = AllPairs-cons IsNameBelow name names (All-from_recursion (λ other. run_name_cmp name other ≡ Less) names h.0) (pairs_from_strict names h.1)

pub names_sorted : (states : List FeedState) (names sorted rest : List RunName) → names ≡ names_changed states → IsPermutation names sorted → IsSorted run_name_cmp sorted
    → rest ≡ dedup is_same_name sorted → AreNamesChanged states rest
names_sorted states names sorted rest are permuted order is = record {
  rise = subst (AllPairs IsNameBelow) (sym is) (pairs_from_strict (dedup is_same_name sorted) (IsStrictlySortedBy-dedup run_name_cmp_total {E = is_same_name} (λ x y. refl) sorted order));
  whole = λ k d l.
      let there : Contains names (get_or (names_changed states) k d) = subst (λ (ns : List RunName). Contains ns (get_or (names_changed states) k d)) (sym are) (k, l, same k d l) in
      subst (λ (ns : List RunName). Contains ns (get_or (names_changed states) k d)) (sym is)
      (Contains-dedup (eq_by_cmp_equiv run_name_cmp_total) same_from sorted (get_or (names_changed states) k d) (Contains-permutation names sorted (get_or (names_changed states) k d) permuted there));
}
  where
    same_at : (ns : List RunName) (k : ℕ) (d e : RunName) → k < length ns → get_or ns k e ≡ get_or ns k d
    same_at [] k d e l = absurd (omega arith)
    same_at (n ∷ ns) zero d e l = refl
    same_at (n ∷ ns) (suc k) d e l = same_at ns k d e (omega arith)

    same : (k : ℕ) (d : RunName) → k < length (names_changed states) → get_or (names_changed states) k (get_or (names_changed states) k d) ≡ get_or (names_changed states) k d
    same k d l = same_at (names_changed states) k d (get_or (names_changed states) k d) l
