-- Runs that changes touch, and what is counted where blocks are made anew.
use Rattle.std.proofs.Common.{◌≡◌, ℕ, zero, suc, ◌+◌, ◌*◌, ◌<◌, ◌≤◌, Bool, IsTrue, true, false, cond, not, ◌&&◌, ◌||◌, List, [], ◌∷◌, ◌++◌, length, get_or, Option, Some, None, refl, sym, ap, subst, ◌∙◌, arith, inl, inr, ◌⊎◌, zero-add}
use Rattle.std.specs.List.{All, filter, flat_map, list_any, sum_by}
use Rattle.std.specs.List.Sorted.{IsPermutation}
use Rattle.std.specs.Ordering.{int_cmp, int_eq, is_eq, nat_cmp}
use Rattle.std.specs.declared.cmp.Ordering.{Ordering}
use Rattle.std.specs.declared.cmp.Ordering.TheVariants.{Less, Equal, Greater}
use Rattle.std.proofs.lemmas.Bool.{eq-eqb}
use Rattle.std.proofs.lemmas.Cmp.{int_eq_equiv, tied_itself}
use Rattle.std.proofs.lemmas.List.{get_or_default}
use Rattle.std.proofs.lemmas.List.Elements.{All-append, All-cons, All-head, All-nil, All-tail, All-weaker, filter-append}
use Rattle.std.proofs.lemmas.List.Folds.{Any-from_list_any, list_any-append, list_any_at}
use Rattle.std.proofs.lemmas.List.Sorted.{IsPermutation-append_right, All-permutation, list_any-IsPermutation, sum_by-IsPermutation}
use Rattle.std.proofs.lemmas.List.Sums.{sum_by-append, sum_by-cons}
use Rattle.otp_model.specs.Patterns.{Spot, is_changed, is_of_one_block, is_same_flag, is_same_pattern, is_same_spot, is_touched, pattern_of, run_changed, touched, with_changes}
use Rattle.otp_model.specs.Resolution.{is_same_name}
use Rattle.otp_model.specs.Schedule.{run_with}
use Rattle.otp_model.specs.declared.change.Change.{Change}
use Rattle.otp_model.specs.declared.run_name.RunName.{RunName}
use Rattle.otp_model.specs.declared.timetable.Call.{Call}
use Rattle.otp_model.specs.declared.timetable.Run.{Run}
use Rattle.otp_model.proofs.NameLemmas.{run_name_cmp_total}
use Rattle.otp_model.proofs.Values.{int_equal, nat_equal, then_equal}
use Rattle.trip_patterns.specs.FirstFit.{IsOfLane, rows_of}
use Rattle.trip_patterns.specs.Lanes.{IsLane, LaneOf, empty_lane}
use Rattle.trip_patterns.specs.Timetables.{IsBlock, IsSameBlock}
use Rattle.snapshot_store.specs.Changing.{kept}
use Rattle.snapshot_store.specs.Order.{flag_number, is_of_lanes, lane_cmp, pattern_cmp, spot_number}

-- equal numbers are those of one spot
same_flag : (a b : Bool) (m n : ℕ) → 4 * m + 2 * flag_number a ≡ 4 * n + 2 * flag_number b → (m ≡ n) × (a ≡ b)
same_flag true true m n h = (omega arith, refl)
same_flag false false m n h = (omega arith, refl)
same_flag true false m n h = absurd (omega arith)
same_flag false true m n h = absurd (omega arith)

same_spot : (a b : Spot) → spot_number a ≡ spot_number b → a ≡ b
same_spot a b h = by_alight a.alight b.alight refl refl
  where
    by_alight : (x y : Bool) → a.alight ≡ x → b.alight ≡ y → a ≡ b
    by_alight true true p q = (let rest = same_flag a.board b.board a.stop b.stop (omega (arith, h, ap flag_number p, ap flag_number q)) in let s = rest.0 in let f = rest.1 in let g = p ∙ sym q in λ i. record { stop = s i; board = f i; alight = g i })
    by_alight false false p q = (let rest = same_flag a.board b.board a.stop b.stop (omega (arith, h, ap flag_number p, ap flag_number q)) in let s = rest.0 in let f = rest.1 in let g = p ∙ sym q in λ i. record { stop = s i; board = f i; alight = g i })
    by_alight true false p q = absurd (omega (arith, h, ap flag_number p, ap flag_number q))
    by_alight false true p q = absurd (omega (arith, h, ap flag_number p, ap flag_number q))

-- patterns that compare alike are one
same_pattern : (a b : List Spot) → pattern_cmp a b ≡ Equal → a ≡ b
same_pattern [] [] h = refl
same_pattern [] (y ∷ ys) h = absurd (let never : ◌≡◌ {A = Ordering} Less Equal = h in cc)
same_pattern (x ∷ xs) [] h = absurd (let never : ◌≡◌ {A = Ordering} Greater Equal = h in cc)
same_pattern (x ∷ xs) (y ∷ ys) h =
    let parts = then_equal (nat_cmp (spot_number x) (spot_number y)) (pattern_cmp xs ys) h in
    λ i. same_spot x y (nat_equal _ _ parts.0) i ∷ same_pattern xs ys parts.1 i

equal_from : (o : Ordering) → is_eq o ≡ true → o ≡ Equal
equal_from Less h = absurd (cc (h))
equal_from Equal h = refl
equal_from Greater h = absurd (cc (h))

-- a run that compares alike with a lane is of its day and pattern
of_lane : (lane : LaneOf) (run : Run) → is_eq (lane_cmp (empty_lane run) lane) ≡ true → IsOfLane lane run
of_lane lane run h =
    let parts = then_equal (int_cmp run.name.day lane.day) (pattern_cmp (pattern_of run) lane.pattern) (equal_from _ h) in
    record { day = int_equal _ _ parts.0; pattern = same_pattern (pattern_of run) lane.pattern parts.1 }

flag_itself : (a : Bool) → is_same_flag a a ≡ true
flag_itself true = refl
flag_itself false = refl

spot_itself : (a : Spot) → is_same_spot a a ≡ true
spot_itself a = λ i. eq-eqb a.stop a.stop refl i && (flag_itself a.board i && flag_itself a.alight i)

pattern_itself : (a : List Spot) → is_same_pattern a a ≡ true
pattern_itself [] = refl
pattern_itself (x ∷ xs) = λ i. spot_itself x i && pattern_itself xs i

-- two runs of one lane are of one block
one_block : (lane : LaneOf) (a b : Run) → IsOfLane lane a → IsOfLane lane b → is_of_one_block a b ≡ true
one_block lane a b of-a of-b =
    let day : b.name.day ≡ a.name.day = of-b.day ∙ sym of-a.day in
    let pattern : pattern_of b ≡ pattern_of a = of-b.pattern ∙ sym of-a.pattern in
    (λ i. int_eq a.name.day (day i) && is_same_pattern (pattern_of a) (pattern i)) ∙ (λ i. int_eq_equiv.refl a.name.day i && pattern_itself (pattern_of a) i)

-- all rows of a block are of the day and pattern of its first lane
rows_in : (first : LaneOf) (lanes : List LaneOf) → All IsLane lanes → All (IsSameBlock first) lanes → All (IsOfLane first) (rows_of lanes)
rows_in first [] are same = All-nil (IsOfLane first)
rows_in first (lane ∷ lanes) are same =
    let is : IsLane lane = All-head IsLane lane lanes are in
    let alike : IsSameBlock first lane = All-head (IsSameBlock first) lane lanes same in
    All-append (IsOfLane first) lane.runs (rows_of lanes)
    (λ k d less. record { day = is.day k d less ∙ sym alike.day; pattern = is.pattern k d less ∙ sym alike.pattern })
    (rows_in first lanes (All-tail IsLane lane lanes are) (All-tail (IsSameBlock first) lane lanes same))

pub block_rows : (first : LaneOf) (lanes : List LaneOf) → IsBlock (first ∷ lanes) → All (IsOfLane first) (rows_of (first ∷ lanes))
block_rows first lanes is =
    rows_in first (first ∷ lanes) is.lanes_are
    (All-cons (IsSameBlock first) first lanes (record { day = refl; pattern = refl }) (λ k d less. is.same 0 (suc k) d (omega arith) (omega arith)))

-- a changed run among some makes those of its block touched
touched_by : (runs : List Run) (changes : List Change) (lane : LaneOf) (run other : Run) (k : ℕ) → k < length runs → get_or runs k other ≡ other → is_changed changes other ≡ true
    → IsOfLane lane run → IsOfLane lane other → is_touched runs changes run ≡ true
touched_by runs changes lane run other k less at changed of-run of-other =
    let p = λ (x : Run). is_changed changes x && is_of_one_block run x in
    list_any_at p runs k other less (ap p at ∙ (λ i. changed i && one_block lane run other of-run of-other i))

or_cases : (a b : Bool) → (a || b) ≡ true → (a ≡ true) ⊎ (b ≡ true)
or_cases true b h = inl refl
or_cases false b h = inr h

-- where an item passes in a part it passes in the whole
pub any_left : (p : Run → Bool) (xs ys : List Run) → list_any p xs ≡ true → list_any p (xs ++ ys) ≡ true
any_left p xs ys h = list_any-append p xs ys ∙ ap (λ b. b || list_any p ys) h

pub any_right : (p : Run → Bool) (xs ys : List Run) → list_any p ys ≡ true → list_any p (xs ++ ys) ≡ true
any_right p xs ys h = list_any-append p xs ys ∙ ap (λ b. list_any p xs || b) h ∙ or_true (list_any p xs)
  where
    or_true : (b : Bool) → (b || true) ≡ true
    or_true true = refl
    or_true false = refl

any_of_block : (p : Run → Bool) (blocks : List (List LaneOf)) (n : ℕ) → n < length blocks → list_any p (rows_of (get_or blocks n [])) ≡ true → list_any p (flat_map rows_of blocks) ≡ true
any_of_block p [] n less h = absurd (omega arith)
any_of_block p (block ∷ blocks) zero less h = any_left p (rows_of block) (flat_map rows_of blocks) h
any_of_block p (block ∷ blocks) (suc n) less h = any_right p (rows_of block) (flat_map rows_of blocks) (any_of_block p blocks n (omega arith) h)

-- the rows of a block into which a run comes, or of which one is changed
pub rows_touched : (changes : List Change) (added : List Run) (blocks : List (List LaneOf)) (n : ℕ) (lanes : List LaneOf) → n < length blocks → get_or blocks n [] ≡ lanes → IsBlock lanes
    → All (λ (run : Run). IsTrue (is_changed changes run)) added → (list_any (is_of_lanes lanes) added ≡ true) ⊎ (list_any (is_changed changes) (rows_of lanes) ≡ true)
    → All (λ (run : Run). is_touched (flat_map rows_of blocks ++ added) changes run ≡ true) (rows_of lanes)
rows_touched changes added blocks n [] less at is are h = All-nil (λ (run : Run). is_touched (flat_map rows_of blocks ++ added) changes run ≡ true)
rows_touched changes added blocks n (lane ∷ lanes) less at is are h = λ k d within.
    let run : Run = get_or (rows_of (lane ∷ lanes)) k d in
    let of : IsOfLane lane run = block_rows lane lanes is k d within in
    let p = λ (other : Run). is_changed changes other && is_of_one_block run other in
    elim h [
      | inl joined ↦
          let found = Any-from_list_any (is_of_lanes (lane ∷ lanes)) added joined in
          any_right p (flat_map rows_of blocks) added
          (touched_by added changes lane run found.1 found.0 found.2 found.3 (changed_at found.0 found.1 found.2 found.3) of (of_lane lane found.1 found.4))
      | inr changed ↦
          let found = Any-from_list_any (is_changed changes) (rows_of (lane ∷ lanes)) changed in
          let here : IsOfLane lane found.1 = subst (IsOfLane lane) found.3 (block_rows lane lanes is found.0 found.1 found.2) in
          any_left p (flat_map rows_of blocks) added
          (any_of_block p blocks n less (subst (λ (ls : List LaneOf). list_any p (rows_of ls) ≡ true) (sym at)
          (touched_by (rows_of (lane ∷ lanes)) changes lane run found.1 found.0 found.2 found.3 found.4 of here)))
    ]
  where
    changed_at : (k : ℕ) (x : Run) → k < length added → get_or added k x ≡ x → is_changed changes x ≡ true
    changed_at k x less at = subst (λ (r : Run). is_changed changes r ≡ true) at (are k x less)

-- rows of which none is changed are all kept
pub all_kept : (changes : List Change) (runs : List Run) → list_any (is_changed changes) runs ≡ false → kept changes runs ≡ runs
all_kept changes [] h = refl
all_kept changes (run ∷ runs) h =
    let parts = or_none (is_changed changes run) (list_any (is_changed changes) runs) h in
    ap (λ b. cond (not b) (run ∷ kept changes runs) (kept changes runs)) parts.0 ∙ ap (λ (xs : List Run). run ∷ xs) (all_kept changes runs parts.1)
  where
    or_none : (a b : Bool) → (a || b) ≡ false → (a ≡ false) × (b ≡ false)
    or_none false b h = (refl, h)
    or_none true b h = absurd (cc (h))

-- the runs that changes bring are of changed names
brought : (whole rest : List Change) → All (λ (change : Change). is_changed whole (record { name = change.name; calls = [] }) ≡ true) rest
    → All (λ (run : Run). IsTrue (is_changed whole run)) (flat_map run_changed rest)
brought whole [] have = All-nil (λ (run : Run). IsTrue (is_changed whole run))
brought whole (change ∷ rest) have =
    let P = λ (run : Run). IsTrue (is_changed whole run) in
    let Q = λ (c : Change). is_changed whole (record { name = c.name; calls = [] }) ≡ true in
    All-append P (run_changed change) (flat_map run_changed rest) (by_calls change.name change.calls (All-head Q change rest have)) (brought whole rest (All-tail Q change rest have))
  where
    by_calls : (name : RunName) (calls : Option (List Call)) → is_changed whole (record { name = name; calls = [] }) ≡ true → All (λ (run : Run). IsTrue (is_changed whole run)) (run_with name calls)
    by_calls name None h = All-nil (λ (run : Run). IsTrue (is_changed whole run))
    by_calls name (Some calls) h = All-cons (λ (run : Run). IsTrue (is_changed whole run)) (record { name = name; calls = calls }) [] h (All-nil (λ (run : Run). IsTrue (is_changed whole run)))

pub all_changed : (changes : List Change) (added : List Run) → IsPermutation (flat_map run_changed changes) added → All (λ (run : Run). IsTrue (is_changed changes run)) added
all_changed changes added moved =
    All-permutation (λ (run : Run). IsTrue (is_changed changes run)) (flat_map run_changed changes) added moved
    (brought changes changes (λ k d less.
    let change : Change = get_or changes k d in
    list_any_at (λ (c : Change). is_same_name c.name change.name) changes k d less (ap is_eq (tied_itself run_name_cmp_total change.name))))

-- the calls of the runs that pass
sum_filter : (p : Run → Bool) (runs : List Run) → sum_by (λ (run : Run). length run.calls) (filter p runs) ≡ sum_by (λ (run : Run). cond (p run) (length run.calls) 0) runs
sum_filter p [] = refl
sum_filter p (run ∷ runs) = by_case (p run) refl (sum_filter p runs)
  where
    calls : Run → ℕ
    calls r = length r.calls

    weigh : Run → ℕ
    weigh r = cond (p r) (length r.calls) 0

    by_case : (b : Bool) → p run ≡ b → sum_by calls (filter p runs) ≡ sum_by weigh runs → sum_by calls (filter p (run ∷ runs)) ≡ sum_by weigh (run ∷ runs)
    by_case true h rest =
        ap (λ b. sum_by calls (cond b (run ∷ filter p runs) (filter p runs))) h ∙ sum_by-cons calls run (filter p runs)
        ∙ (λ i. cond (sym h i) (length run.calls) 0 + rest i) ∙ sym (sum_by-cons weigh run runs)
    by_case false h rest =
        ap (λ b. sum_by calls (cond b (run ∷ filter p runs) (filter p runs))) h ∙ rest ∙ sym (zero-add (sum_by weigh runs))
        ∙ (λ i. cond (sym h i) (length run.calls) 0 + sum_by weigh runs) ∙ sym (sum_by-cons weigh run runs)

sum_all : (p : Run → Bool) (runs : List Run) → All (λ (run : Run). p run ≡ true) runs → sum_by (λ (run : Run). cond (p run) (length run.calls) 0) runs ≡ sum_by (λ (run : Run). length run.calls) runs
sum_all p [] all = refl
sum_all p (run ∷ runs) all =
    sum_by-cons (λ (run : Run). cond (p run) (length run.calls) 0) run runs
    ∙ (λ i. cond (All-head (λ (r : Run). p r ≡ true) run runs all i) (length run.calls) 0 + sum_all p runs (All-tail (λ (r : Run). p r ≡ true) run runs all) i)
    ∙ sym (sum_by-cons (λ (run : Run). length run.calls) run runs)

-- the run is touched where changes lead from these runs to others
abbrev pub is_weighed : List Run → List Change → Run → Bool
is_weighed before changes run = is_touched (before ++ with_changes before changes) changes run

-- the calls of the run if it is touched
abbrev pub weight : List Run → List Change → Run → ℕ
weight before changes run = cond (is_weighed before changes run) (length run.calls) 0

module _ (before : List Run) (changes : List Change) (added : List Run) (brought-moved : IsPermutation (flat_map run_changed changes) added) where
  abbrev pub now : List Run
  now = with_changes before changes

  abbrev pub calls : Run → ℕ
  calls run = length run.calls

  -- what is touched by the runs that changes bring is touched by those of the schedule then
  wider : (run : Run) → is_touched (before ++ added) changes run ≡ true → is_weighed before changes run ≡ true
  wider run h =
      let p = λ (other : Run). is_changed changes other && is_of_one_block run other in
      elim (or_cases (list_any p before) (list_any p added) (sym (list_any-append p before added) ∙ h)) [
        | inl there ↦ any_left p before now there
        | inr among ↦ any_right p before now (any_right p (kept changes before) (flat_map run_changed changes) (list_any-IsPermutation p (flat_map run_changed changes) added brought-moved ∙ among))
      ]

  own : (k : ℕ) (d : Run) → k < length added → is_touched (before ++ added) changes (get_or added k d) ≡ true
  own k d less =
      let run : Run = get_or added k d in
      any_right (λ (other : Run). is_changed changes other && is_of_one_block run other) before added
      (touched_by added changes (empty_lane run) run run k less (get_or_default added k run d less) (all_changed changes added brought-moved k d less)
      (record { day = refl; pattern = refl }) (record { day = refl; pattern = refl }))

  -- touched runs weigh as many calls as they have
  pub weigh_all : (runs : List Run) → All (λ (run : Run). is_touched (before ++ added) changes run ≡ true) runs → sum_by (weight before changes) runs ≡ sum_by calls runs
  weigh_all runs are =
      sum_all (is_weighed before changes) runs (All-weaker (λ (run : Run). is_touched (before ++ added) changes run ≡ true) (λ (run : Run). is_weighed before changes run ≡ true) wider runs are)

  -- the touched runs that are kept, and those that changes bring, have no more calls than are touched
  pub weighed_within : sum_by (weight before changes) (kept changes before) + sum_by calls added ≤ touched before now changes
  weighed_within =
      let weigh = weight before changes in
      let all : IsPermutation now (kept changes before ++ added) = IsPermutation-append_right (kept changes before) (flat_map run_changed changes) added brought-moved in
      omega (
        arith,
        ap (sum_by calls) (filter-append (is_weighed before changes) before now),
        sum_by-append calls (filter (is_weighed before changes) before) (filter (is_weighed before changes) now),
        sum_filter (is_weighed before changes) now,
        sum_by-IsPermutation weigh now (kept changes before ++ added) all,
        sum_by-append weigh (kept changes before) added,
        weigh_all added own,
      )
