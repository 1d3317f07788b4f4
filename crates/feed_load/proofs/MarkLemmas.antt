-- Marks along the starts of rows, and how many there are.
use Rattle.std.proofs.Common.{◌≡◌, ◌≢◌, ◌↔◌, ℕ, ◌+◌, ◌-◌, ◌*◌, ◌<◌, ◌≤◌, Bool, true, false, not, ◌||◌, List, [], ◌∷◌, ◌++◌, length, take, max, get_or, refl, sym, ap, subst, ◌∙◌, inl, inr, arith}
use Rattle.std.specs.Prelude.{nat_eq}
use Rattle.std.specs.List.{All, Contains, list_any}
use Rattle.std.specs.List.Sorted.{IsPermutation, IsSorted}
use Rattle.std.specs.Ordering.{nat_cmp}
use Rattle.std.proofs.lemmas.List.Sorted.{Contains-permutation, IsPermutation-sym}
use Rattle.feed_load.proofs.RisingLemmas.{sorted_passing}
use Rattle.std.proofs.Math.Bool.{or_assoc, or_comm}
use Rattle.std.proofs.lemmas.Bool.{cases_lt, eq-eqb, eqb-true, or_cases, or_left, or_right}
use Rattle.std.proofs.lemmas.List.Elements.{All-push, Contains-append_left, Contains-get_or, Contains-push, Contains-push_cases}
use Rattle.std.proofs.lemmas.List.Folds.{list_any-append, list_any_none}
use Rattle.std.proofs.lemmas.List.Quantifiers.{all_pairs_push}
use Rattle.std.proofs.lemmas.List.{take_more}
use Rattle.gtfs_links.specs.declared.feed.HeadwayRow.{HeadwayRow}
use Rattle.otp_model.specs.Limits.{clock_end}
use Rattle.feed_load.specs.Marks.{AreListed, is_marked, marked_count, times_of}
use Rattle.feed_load.specs.Starts.{IsHeadway, is_start, is_start_of, starts_in}
use Rattle.feed_load.specs.declared.marks.Marks.{Marks}
use Rattle.feed_load.proofs.NumberLemmas.{number, number_beyond, number_few, number_more, number_none, number_same}
use Rattle.feed_load.proofs.StartLemmas.{cut_all, cut_at, cut_more, cut_none, start_true}

-- after one more start of a row is marked
pub turn_marked : (row : HeadwayRow) (turn time : ℕ) (new mid old : Bool) → 0 < row.headway → new ≡ (nat_eq time (row.start + turn * row.headway) || mid)
    → mid ≡ (is_start_of time (cut_at row turn) || old) → new ≡ (is_start_of time (cut_at row (turn + 1)) || old)
turn_marked row turn time new mid old some n m =
    let here : Bool = nat_eq time (row.start + turn * row.headway) in
    let before : Bool = is_start_of time (cut_at row turn) in
    n ∙ (ap (λ (b : Bool). here || b) m ∙ (sym (or_assoc here before old) ∙ ap (λ (b : Bool). b || old) (sym (cut_more row some turn time))))

pub none_marked : (row : HeadwayRow) (time : ℕ) (old : Bool) → 0 < row.headway → old ≡ (is_start_of time (cut_at row 0) || old)
none_marked row time old some = ap (λ (b : Bool). b || old) (sym (cut_none row some time))

pub all_marked : (row : HeadwayRow) (turns time : ℕ) (new old : Bool) → 0 < row.headway
    → ((turn : ℕ) → turn < turns ↔ (row.start + turn * row.headway < row.end)) → new ≡ (is_start_of time (cut_at row turns) || old) → new ≡ (is_start_of time row || old)
all_marked row turns time new old some ends n = n ∙ ap (λ (b : Bool). b || old) (cut_all row some turns time ends)

module _ (mid new : Marks) (time : ℕ) (same : times_of new ≡ times_of mid) (more : (other : ℕ) → is_marked new other ≡ (nat_eq other time || is_marked mid other)) where
  pub count_fresh : time < times_of mid → is_marked mid time ≡ false → marked_count new ≡ marked_count mid + 1
  count_fresh less fresh = ap (number (is_marked new)) same ∙ number_more (is_marked mid) (is_marked new) (times_of mid) time less fresh more

  stays : is_marked mid time ≡ true → (other : ℕ) → is_marked new other ≡ is_marked mid other
  stays marked other = more other ∙ by (nat_eq other time) refl
    where
      by : (b : Bool) → nat_eq other time ≡ b → (b || is_marked mid other) ≡ is_marked mid other
      by true e = sym (ap (is_marked mid) (eqb-true other time e) ∙ marked)
      by false e = refl

  pub count_stale : is_marked mid time ≡ true → marked_count new ≡ marked_count mid
  count_stale marked = ap (number (is_marked new)) same ∙ number_same (is_marked new) (is_marked mid) (times_of mid) (λ k less. stays marked k)

  pub list_stale : (list : List ℕ) → is_marked mid time ≡ true → AreListed mid list → AreListed new list
  list_stale list marked are = record { once = are.once; marked = λ t. (λ there. stays marked t ∙ (are.marked t).0 there, λ is. (are.marked t).1 (sym (stays marked t) ∙ is)) }

  pub list_fresh : (list : List ℕ) → is_marked mid time ≡ false → AreListed mid list → AreListed new (list ++ time ∷ [])
  list_fresh list fresh are = record {
    once = all_pairs_push (λ (a : ℕ) (b : ℕ). a ≢ b) list time are.once (λ k d less same.
        let there : is_marked mid (get_or list k d) ≡ true = (are.marked (get_or list k d)).0 (Contains-get_or list k d less) in
        absurd (cc (sym there ∙ (ap (is_marked mid) same ∙ fresh))));
    marked = λ t. (there t, back t);
  }
    where
      there : (t : ℕ) → Contains (list ++ time ∷ []) t → is_marked new t ≡ true
      there t h = more t ∙ elim (Contains-push_cases list time t h) [
        | inl old ↦ or_right (nat_eq t time) (is_marked mid t) ((are.marked t).0 old)
        | inr now ↦ or_left (nat_eq t time) (is_marked mid t) (eq-eqb t time (sym now))
      ]

      back : (t : ℕ) → is_marked new t ≡ true → Contains (list ++ time ∷ []) t
      back t h = elim (or_cases (nat_eq t time) (is_marked mid t) (sym (more t) ∙ h)) [
        | inl now ↦ subst (λ (n : ℕ). Contains (list ++ time ∷ []) n) (sym (eqb-true t time now)) (Contains-push list time)
        | inr old ↦ Contains-append_left list (time ∷ []) t ((are.marked t).1 old)
      ]

-- no mark yet
pub count_none : (marks : Marks) → ((time : ℕ) → is_marked marks time ≡ false) → marked_count marks ≡ 0
count_none marks none = number_none (is_marked marks) (times_of marks) none

pub count_few : (marks : Marks) → marked_count marks ≤ times_of marks
count_few marks = number_few (is_marked marks) (times_of marks)

-- one row more
pub row_marked : (rows : List HeadwayRow) (i time : ℕ) (d : HeadwayRow) (new old : Bool) → i < length rows → new ≡ (is_start_of time (get_or rows i d) || old)
    → old ≡ is_start (take i rows) time → new ≡ is_start (take (i + 1) rows) time
row_marked rows i time d new old less n o =
    let row : HeadwayRow = get_or rows i d in
    let more : is_start (take (i + 1) rows) time ≡ (is_start (take i rows) time || (is_start_of time row || false)) =
    ap (list_any (is_start_of time)) (take_more rows i d less) ∙ list_any-append (is_start_of time) (take i rows) (row ∷ []) in
    n ∙ (ap (λ (b : Bool). is_start_of time row || b) o ∙ (or_comm (is_start_of time row) (is_start (take i rows) time) ∙ (ap (λ (b : Bool). is_start (take i rows) time || b) (alone (is_start_of time row)) ∙ sym more)))
  where
    alone : (b : Bool) → b ≡ (b || false)
    alone true = refl
    alone false = refl

-- a time at or behind the rows' ends is no start
none_behind : (rows : List HeadwayRow) (times time : ℕ) → All (IsHeadway times) rows → times ≤ time → is_start rows time ≡ false
none_behind rows times time are behind = list_any_none (is_start_of time) rows (λ k d less. by (is_start_of time (get_or rows k d)) refl (are k d less))
  where
    by : {row : HeadwayRow} (b : Bool) → is_start_of time row ≡ b → IsHeadway times row → b ≡ false
    by {row} true e is = let start = start_true time row e in absurd (omega (arith, start.before, is.end, behind))
    by false e is = refl

pub not_marked : (b r : Bool) → r ≡ not b → r ≡ true → b ≡ false
not_marked true r is h = absurd (cc (sym is ∙ h))
not_marked false r is h = refl

pub marked_before : (b r : Bool) → r ≡ not b → r ≡ false → b ≡ true
marked_before true r is h = refl
marked_before false r is h = absurd (cc (sym is ∙ h))

-- the marked times are the starts
module _ (marks : Marks) (rows : List HeadwayRow) (are : All (IsHeadway (times_of marks)) rows) (marked : (time : ℕ) → is_marked marks time ≡ is_start rows time) where
  starts_below : (end : ℕ) → times_of marks ≤ end → marked_count marks ≡ number (is_start rows) end
  starts_below end few =
      let whole : times_of marks + (end - times_of marks) ≡ end = omega (arith, few) in
      number_same (is_marked marks) (is_start rows) (times_of marks) (λ k less. marked k)
      ∙ (sym (number_beyond (is_start rows) (times_of marks) (end - times_of marks) (λ k behind. none_behind rows (times_of marks) k are behind)) ∙ ap (number (is_start rows)) whole)

  pub count_all : times_of marks ≤ clock_end → marked_count marks ≡ length (starts_in rows)
  unfolding starts_in
  count_all few = starts_below clock_end few

  is_below : (end time : ℕ) → times_of marks ≤ end → is_start rows time ≡ true → time < end
  is_below end time few h = elim (cases_lt time (times_of marks)) [
    | inl less ↦ omega (arith, less, few)
    | inr behind ↦ absurd (cc (sym h ∙ none_behind rows (times_of marks) time are behind))
  ]

  pub list_all : (list sorted : List ℕ) → times_of marks ≤ clock_end → AreListed marks list → IsPermutation list sorted → IsSorted nat_cmp sorted → sorted ≡ starts_in rows
  unfolding starts_in
  list_all list sorted few listed permuted rises =
      sorted_passing (is_start rows) clock_end list sorted listed.once permuted rises
      (λ t h. sym (marked t) ∙ (listed.marked t).0 (Contains-permutation sorted list t (IsPermutation-sym list sorted permuted) h))
      (λ t h. Contains-permutation list sorted t permuted ((listed.marked t).1 (marked t ∙ h)))
      (λ t h. is_below clock_end t few h)

-- an empty list, before any mark
pub list_none : (marks : Marks) → ((time : ℕ) → is_marked marks time ≡ false) → AreListed marks []
list_none marks none = record {
  once = λ i j d less within. absurd (omega (arith, within));
  marked = λ t. (λ (k, below, is). absurd (omega (arith, below)), λ h. absurd (cc (sym h ∙ none t)));
}

pub ends_more : (rows : List HeadwayRow) (i latest new : ℕ) (e : HeadwayRow) → i < length rows → All (λ row. row.end ≤ latest) (take i rows) → new ≡ max latest (get_or rows i e).end
    → All (λ row. row.end ≤ new) (take (i + 1) rows)
ends_more rows i latest new e less are greater =
    rw (take_more rows i e less) (All-push (λ (row : HeadwayRow). row.end ≤ new) (take i rows) (get_or rows i e) (λ k d within. omega (arith, are k d within, greater)) (omega (arith, greater)))

pub least_more : (rows : List HeadwayRow) (i latest new : ℕ) (e : HeadwayRow) → i < length rows → new ≡ max latest (get_or rows i e).end
    → ((limit : ℕ) → All (λ (row : HeadwayRow). row.end ≤ limit) rows → latest ≤ limit) → (limit : ℕ) → All (λ (row : HeadwayRow). row.end ≤ limit) rows → new ≤ limit
least_more rows i latest new e less greater least limit below =
    let before = least limit below in
    let here = below i e less in
    omega (arith, greater, before, here)
