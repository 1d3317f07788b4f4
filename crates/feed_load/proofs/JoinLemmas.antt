-- Rows of headways that are joined.
use Rattle.std.proofs.Common.{◌≡◌, ℕ, suc, ◌+◌, ◌-◌, ◌*◌, ◌/◌, ◌%◌, ◌<◌, ◌≤◌, max, Bool, true, false, ◌||◌, List, [], ◌∷◌, ◌++◌, length, map, take, set, get_or, Some, refl, sym, ap, subst, ◌∙◌, inl, inr, arith}
use Rattle.std.specs.Prelude.{nat_eq}
use Rattle.std.specs.List.{All, range_with_len}
use Rattle.std.specs.List.Sorted.{IsPermutation}
use Rattle.std.proofs.Math.Nat.{mod-add-div'}
use Rattle.std.proofs.Math.Seq.{take-suc-set}
use Rattle.std.proofs.lemmas.Bool.{cases_lt, eqb-true, or_cases, or_left, or_right}
use Rattle.std.proofs.lemmas.List.{get_or_append_left, get_or_push, length-set, length_push, take_all, take_more}
use Rattle.std.proofs.lemmas.List.Elements.{filter_agree}
use Rattle.std.proofs.lemmas.List.Folds.{list_any-append}
use Rattle.std.proofs.lemmas.List.Sorted.{All-permutation, length_permutation, list_any-IsPermutation}
use Rattle.std.proofs.lemmas.Option.{get_or_from_slice_get, slice_get_within}
use Rattle.gtfs_links.specs.declared.feed.HeadwayRow.{HeadwayRow}
use Rattle.otp_model.specs.Limits.{clock_end}
use Rattle.feed_load.specs.Joins.{AreJoined, GoesOn, GoesOnLast}
use Rattle.feed_load.specs.Starts.{IsHeadway, is_start, is_start_of, starts_by, starts_in}
use Rattle.feed_load.proofs.StartLemmas.{before_turn, bool_same, start_passes, start_true}

-- the one row up to the end of both
abbrev pub joined_with : HeadwayRow → ℕ → HeadwayRow
joined_with one end = record one { end = end }

split_turns : (a b c : ℕ) → a + b ≡ c → (h : ℕ) → c * h ≡ a * h + b * h
split_turns a b c e h = subst (λ (n : ℕ). n * h ≡ a * h + b * h) e (grind arith)

fewer_turns : (a b h : ℕ) → a * h ≤ b * h → 0 < h → a ≤ b
fewer_turns a b h le some = elim (cases_lt b a) [
  | inl more ↦ absurd (omega (arith, le, before_turn b a h some more))
  | inr fine ↦ fine
]

-- its starts are those of both
pub joined_start : (one other : HeadwayRow) (end time : ℕ) → 0 < other.headway → GoesOn one other → end ≡ max one.end other.end
    → is_start_of time (joined_with one end) ≡ (is_start_of time one || is_start_of time other)
joined_start one other end time some on greatest =
    bool_same (is_start_of time (joined_with one end)) (is_start_of time one || is_start_of time other) there back
  where
    same : one.headway ≡ other.headway
    same = on.same

    there : is_start_of time (joined_with one end) ≡ true → (is_start_of time one || is_start_of time other) ≡ true
    there h =
        let start = start_true time (joined_with one end) h in
        let is = start.is in
        let before = start.before in
        elim (cases_lt time one.end) [
          | inl early ↦ or_left (is_start_of time one) (is_start_of time other) (start_passes time one (record { turns = start.turns; is = is; before = early }))
          | inr late ↦
              let step = on.in_step in
              let touch = on.touches in
              let behind : on.turns * one.headway ≤ start.turns * one.headway = omega (arith, is, late, step, touch) in
              let positive : 0 < one.headway = omega (arith, same, some) in
              let fewer : on.turns ≤ start.turns = fewer_turns on.turns start.turns one.headway behind positive in
              let gap : on.turns + (start.turns - on.turns) ≡ start.turns = omega (arith, fewer) in
              let parts = split_turns on.turns (start.turns - on.turns) start.turns gap one.headway in
              let at : time ≡ other.start + (start.turns - on.turns) * one.headway = omega (arith, is, step, parts) in
              or_right (is_start_of time one) (is_start_of time other)
              (start_passes time other (record {
                turns = start.turns - on.turns;
                is = at ∙ ap (λ (h : ℕ). other.start + (start.turns - on.turns) * h) same;
                before = omega (arith, before, greatest, late);
              }))
        ]

    back : (is_start_of time one || is_start_of time other) ≡ true → is_start_of time (joined_with one end) ≡ true
    back h = elim (or_cases (is_start_of time one) (is_start_of time other) h) [
      | inl first ↦
          let start = start_true time one first in
          let before = start.before in
          start_passes time (joined_with one end) (record { turns = start.turns; is = start.is; before = omega (arith, before, greatest) })
      | inr second ↦
          let start = start_true time other second in
          let is = start.is in
          let before = start.before in
          let step = on.in_step in
          let parts = split_turns on.turns start.turns (on.turns + start.turns) refl one.headway in
          let own : start.turns * other.headway ≡ start.turns * one.headway = ap (λ (h : ℕ). start.turns * h) (sym same) in
          start_passes time (joined_with one end) (record {
            turns = on.turns + start.turns;
            is = omega (arith, is, step, parts, own);
            before = omega (arith, before, greatest);
          })
    ]

-- a row is put behind
pub pushed_start : (rows : List HeadwayRow) (row : HeadwayRow) (time : ℕ) → is_start (rows ++ row ∷ []) time ≡ (is_start rows time || is_start_of time row)
pushed_start rows row time = list_any-append (is_start_of time) rows (row ∷ []) ∙ ap (λ (b : Bool). is_start rows time || b) (alone (is_start_of time row))
  where
    alone : (b : Bool) → (b || false) ≡ b
    alone true = refl
    alone false = refl

-- or joined with the last one
pub last_start : (rows : List HeadwayRow) (row new : HeadwayRow) (time : ℕ) (on : GoesOnLast rows row) → is_start_of time new ≡ (is_start_of time on.last || is_start_of time row)
    → is_start (set rows (length rows - 1) new) time ≡ (is_start rows time || is_start_of time row)
last_start rows row new time on is =
    let within : length rows - 1 < length rows = slice_get_within rows (length rows - 1) on.last on.stands in
    let start : List HeadwayRow = take (length rows - 1) rows in
    let count : length rows - 1 + 1 ≡ length rows = omega (arith, within) in
    let all : rows ≡ start ++ on.last ∷ [] =
    sym (take_all (length rows - 1 + 1) rows (omega (arith, within))) ∙ (take_more rows (length rows - 1) on.last within ∙ ap (λ (r : HeadwayRow). start ++ r ∷ []) (get_or_from_slice_get rows (length rows - 1) on.last on.last on.stands)) in
    let changed : set rows (length rows - 1) new ≡ start ++ new ∷ [] =
    sym (take_all (suc (length rows - 1)) (set rows (length rows - 1) new) (omega (arith, within, length-set rows (length rows - 1) new))) ∙ take-suc-set rows (length rows - 1) new within in
    ap (λ (rs : List HeadwayRow). is_start rs time) changed
    ∙ (pushed_start start new time
    ∙ (ap (λ (b : Bool). is_start start time || b) is
    ∙ (regroup (is_start start time) (is_start_of time on.last) (is_start_of time row)
    ∙ ap (λ (b : Bool). b || is_start_of time row) (sym (ap (λ (rs : List HeadwayRow). is_start rs time) all ∙ pushed_start start on.last time)))))
  where
    regroup : (a b c : Bool) → (a || (b || c)) ≡ ((a || b) || c)
    regroup true b c = refl
    regroup false b c = refl

pub last_joined : (rows : List HeadwayRow) (row m : HeadwayRow) (end n time : ℕ) → GoesOnLast rows row → 0 < row.headway → n ≡ length rows - 1 → m ≡ get_or rows n m → end ≡ max m.end row.end
    → is_start (set rows n (joined_with m end)) time ≡ (is_start rows time || is_start_of time row)
last_joined rows row m end n time on some at is greatest =
    let last : m ≡ on.last = is ∙ (ap (λ (k : ℕ). get_or rows k m) at ∙ get_or_from_slice_get rows (length rows - 1) on.last m on.stands) in
    let goes : GoesOn m row = subst (λ (r : HeadwayRow). GoesOn r row) (sym last) on.goes_on in
    let both = joined_start m row end time some goes greatest ∙ ap (λ (r : HeadwayRow). is_start_of time r || is_start_of time row) last in
    ap (λ (k : ℕ). is_start (set rows k (joined_with m end)) time) at ∙ last_start rows row (joined_with m end) time on both

pub on_in_step : (one other : HeadwayRow) → one.headway ≡ other.headway → one.start ≤ other.start → other.start ≤ one.end → nat_eq ((other.start - one.start) % other.headway) 0 ≡ true → GoesOn one other
on_in_step one other same from touches h =
    let whole : (other.start - one.start) % other.headway ≡ 0 = eqb-true ((other.start - one.start) % other.headway) 0 h in
    let all = mod-add-div' (other.start - one.start) other.headway in
    let step : other.start ≡ one.start + (other.start - one.start) / other.headway * other.headway = omega (arith, from, whole, all) in
    record {
      same = same;
      turns = (other.start - one.start) / other.headway;
      in_step = step ∙ ap (λ (k : ℕ). one.start + (other.start - one.start) / other.headway * k) (sym same);
      touches = touches;
    }

-- no row yet
pub joined_none : AreJoined [] []
joined_none = record { starts = λ time. refl; none = (λ h. h, λ h. h); headways = λ times are. are }

-- one row more
pub joined_more : (rows joined new : List HeadwayRow) (i : ℕ) (e : HeadwayRow) → i < length rows → AreJoined (take i rows) joined
    → ((time : ℕ) → is_start new time ≡ (is_start joined time || is_start_of time (get_or rows i e))) → 0 < length new
    → ((times : ℕ) → IsHeadway times (get_or rows i e) → All (IsHeadway times) joined → All (IsHeadway times) new) → AreJoined (take (i + 1) rows) new
joined_more rows joined new i e less are starts some headways =
    let next : take (i + 1) rows ≡ take i rows ++ get_or rows i e ∷ [] = take_more rows i e less in
    rw next (record {
      starts = λ time. starts time ∙ (ap (λ (b : Bool). b || is_start_of time (get_or rows i e)) (are.starts time) ∙ sym (pushed_start (take i rows) (get_or rows i e) time));
      none = (
        λ h. absurd (omega (arith, some, h)),
        λ h. absurd (omega (arith, h, length_push (take i rows) (get_or rows i e))),
      );
      headways = λ times all. headways times (last_of (take i rows) (get_or rows i e) times all) (are.headways times (first_of (take i rows) (get_or rows i e) times all));
    })
  where
    last_of : (xs : List HeadwayRow) (y : HeadwayRow) (times : ℕ) → All (IsHeadway times) (xs ++ y ∷ []) → IsHeadway times y
    last_of xs y times all = subst (IsHeadway times) (get_or_push xs y y (length xs) refl) (all (length xs) y (omega (arith, length_push xs y)))

    first_of : (xs : List HeadwayRow) (y : HeadwayRow) (times : ℕ) → All (IsHeadway times) (xs ++ y ∷ []) → All (IsHeadway times) xs
    first_of xs y times all = λ k d within.
        subst (IsHeadway times) (get_or_append_left xs (y ∷ []) d k within) (all k d (omega (arith, within, length_push xs y)))

-- rows in another order
pub joined_any_order : (rows sorted joined : List HeadwayRow) → IsPermutation rows sorted → AreJoined sorted joined → AreJoined rows joined
joined_any_order rows sorted joined permuted are = record {
  starts = λ time. are.starts time ∙ sym (list_any-IsPermutation (is_start_of time) rows sorted permuted);
  none = (
    λ h. (let n = are.none.0 h in omega (arith, n, length_permutation rows sorted permuted)),
    λ h. are.none.1 (omega (arith, h, length_permutation rows sorted permuted)),
  );
  headways = λ times all. are.headways times (All-permutation (IsHeadway times) rows sorted permuted all);
}

same_in : (rows joined : List HeadwayRow) → ((time : ℕ) → is_start joined time ≡ is_start rows time) → starts_in joined ≡ starts_in rows
unfolding starts_in
same_in rows joined same = filter_agree (is_start joined) (is_start rows) same (range_with_len 0 clock_end)

pub joined_starts : (rows joined : List HeadwayRow) → AreJoined rows joined → starts_by joined ≡ starts_by rows
joined_starts [] [] are = refl
joined_starts [] (j ∷ js) are = absurd (let n = are.none.1 refl in omega (arith, n))
joined_starts (r ∷ rs) [] are = absurd (let n = are.none.0 refl in omega (arith, n))
joined_starts (r ∷ rs) (j ∷ js) are = ap (map (λ (start : ℕ). Some start)) (same_in (r ∷ rs) (j ∷ js) are.starts)
