-- Least times, with one more row, and as bounds.
use Rattle.std.proofs.Common.{◌≡◌, ℕ, zero, suc, ◌+◌, ◌≤◌, min, ℤ, pos, negsuc, ◌+ℤ◌, ◌-ℤ◌, ◌≤ℤ◌, ◌<ℤ◌, List, [], ◌∷◌, ◌++◌, length, get_or, Some, None, refl, sym, ap, subst, ◌∙◌, arith, unsigned_abs}
use Rattle.std.proofs.lemmas.Int.{ints}
use Rattle.std.proofs.Math.Nat.{min-le_left, min-le_right, min_comm}
use Rattle.std.specs.List.{slice_get}
use Rattle.std.proofs.lemmas.List.{with_items_is}
use Rattle.std.specs.Global.{Vec}
use Rattle.std.specs.Vec.{with_items}
use Rattle.otp_model.specs.declared.timetable.Run.{Run}
use Rattle.trip_patterns.specs.Hops.{AreLeast, IsDwellBound, IsHopBound, IsLowered, positive_part, dwell_at, dwell_in, hop_between, hop_in, least, least_dwell, least_hop, most_seconds, seconds_between}

lesser : (a b c : ℕ) → min a (min b c) ≡ min (min a b) c
lesser a b c = omega arith

pub least_more : (time : Run → ℕ) (runs : List Run) (run : Run) → least time (runs ++ run ∷ []) ≡ min (least time runs) (time run)
least_more time [] run = min_comm (time run) most_seconds
least_more time (first ∷ runs) run = ap (min (time first)) (least_more time runs run) ∙ lesser (time first) (least time runs) (time run)

pub least_most : (time : Run → ℕ) (runs : List Run) → least time runs ≤ most_seconds
least_most time [] = omega arith
least_most time (run ∷ runs) = omega (arith, least_most time runs, min-le_right (time run) (least time runs))

pub least_append : (time : Run → ℕ) (runs more : List Run) → least time (runs ++ more) ≡ min (least time runs) (least time more)
least_append time [] more = omega (arith, least_most time more)
least_append time (run ∷ runs) more = ap (min (time run)) (least_append time runs more) ∙ lesser (time run) (least time runs) (least time more)

pub least_under : (time : Run → ℕ) (runs : List Run) (row : ℕ) (run : Run) → slice_get runs row ≡ Some run → least time runs ≤ time run
least_under time [] row run at = absurd (let e : None ≡ Some run = at in cc)
least_under time (first ∷ runs) zero run at =
    let same : first ≡ run = (let e : Some first ≡ Some run = at in cc) in
    subst (λ (r : Run). least time (first ∷ runs) ≤ time r) same (min-le_left (time first) (least time runs))
least_under time (first ∷ runs) (suc row) run at = omega (arith, least_under time runs row run at, min-le_right (time first) (least time runs))

part_within : (d : ℤ) → pos 0 ≤ℤ d → pos (positive_part d) ≤ℤ d
part_within (pos n) h = omega (arith, ints)
part_within (negsuc n) h = absurd (omega (arith, ints, h))

-- where a time is not before another, so many seconds from it on it is not passed
within_seconds : (from to : ℤ) (n : ℕ) → n ≤ seconds_between from to → from ≤ℤ to → (from +ℤ pos n) ≤ℤ to
within_seconds from to n less forward =
    let d : ℤ = to -ℤ from in
    let far = part_within d (omega (arith, ints, forward)) in
    let under = min-le_left (positive_part d) most_seconds in
    omega (arith, ints, far, under, less)

pub hop_bound : (runs : List Run) (position : ℕ) → IsHopBound runs position (least_hop runs position)
hop_bound runs position = record {
  each = λ row here next at after forward.
      let run = at.run in
      let same : after.run ≡ run = (let e : Some after.run ≡ Some run = sym after.run_is ∙ at.run_is in cc) in
      let then = subst (λ (r : Run). slice_get r.calls (position + 1) ≡ Some next) same after.call_is in
      let is : hop_in run.calls position ≡ seconds_between here.departure next.arrival
      = (λ i. hop_between (at.call_is i) (then i)) in
      within_seconds here.departure next.arrival (least_hop runs position)
      (subst (λ (n : ℕ). least_hop runs position ≤ n) is (least_under (λ (r : Run). hop_in r.calls position) runs row run at.run_is)) forward;
}

pub dwell_bound : (runs : List Run) (position : ℕ) → IsDwellBound runs position (least_dwell runs position)
dwell_bound runs position = record {
  each = λ row here at forward.
      let is : dwell_in at.run.calls position ≡ seconds_between here.arrival here.departure = ap dwell_at at.call_is in
      within_seconds here.arrival here.departure (least_dwell runs position)
      (subst (λ (n : ℕ). least_dwell runs position ≤ n) is (least_under (λ (r : Run). dwell_in r.calls position) runs row at.run at.run_is)) forward;
}

pub none_before : (from to : ℤ) → to <ℤ from → 0 ≡ seconds_between from to
none_before from to h = sym (ap (λ n. min n most_seconds) (part_below (to -ℤ from) (omega (arith, ints, h))))
  where
    part_below : (d : ℤ) → d <ℤ pos 0 → positive_part d ≡ 0
    part_below (pos n) less = absurd (omega (arith, ints, less))
    part_below (negsuc n) less = refl

pub size_behind : (from to : ℤ) → from ≤ℤ to → unsigned_abs (to -ℤ from) ≡ positive_part (to -ℤ from)
size_behind from to h = size (to -ℤ from) (omega (arith, ints, h))
  where
    size : (d : ℤ) → pos 0 ≤ℤ d → unsigned_abs d ≡ positive_part d
    size (pos n) less = refl
    size (negsuc n) less = absurd (omega (arith, ints, less))

-- lowered to one more row, least times are those of the rows with it
pub least_lowered : (positions : ℕ) (runs : List Run) (run : Run) (hops dwells hops' dwells' : List ℕ) → AreLeast positions runs hops dwells
    → IsLowered (hop_in run.calls) hops hops' → IsLowered (dwell_in run.calls) dwells dwells' → AreLeast positions (runs ++ run ∷ []) hops' dwells'
least_lowered positions runs run hops dwells hops' dwells' are hop dwell = record {
  hop_count = hop.len ∙ are.hop_count;
  dwell_count = dwell.len ∙ are.dwell_count;
  hops_are = λ k less.
      hop.each k (omega (arith, are.hop_count)) ∙ ap (λ n. min n (hop_in run.calls k)) (are.hops_are k less)
      ∙ sym (least_more (λ (r : Run). hop_in r.calls k) runs run);
  dwells_are = λ k less.
      dwell.each k (omega (arith, are.dwell_count)) ∙ ap (λ n. min n (dwell_in run.calls k)) (are.dwells_are k less)
      ∙ sym (least_more (λ (r : Run). dwell_in r.calls k) runs run);
}

-- lowered to the least times of more rows, least times are those of all
pub least_joined : (positions : ℕ) (runs more : List Run) (hops dwells hops' dwells' own others : List ℕ) → AreLeast positions runs hops dwells
    → AreLeast positions more own others → IsLowered (λ k. get_or own k 0) hops hops' → IsLowered (λ k. get_or others k 0) dwells dwells'
    → AreLeast positions (runs ++ more) hops' dwells'
least_joined positions runs more hops dwells hops' dwells' own others are others-are hop dwell = record {
  hop_count = hop.len ∙ are.hop_count;
  dwell_count = dwell.len ∙ are.dwell_count;
  hops_are = λ k less.
      hop.each k (omega (arith, are.hop_count)) ∙ ap (λ n. min n (get_or own k 0)) (are.hops_are k less)
      ∙ ap (min (least_hop runs k)) (others-are.hops_are k less) ∙ sym (least_append (λ (r : Run). hop_in r.calls k) runs more);
  dwells_are = λ k less.
      dwell.each k (omega (arith, are.dwell_count)) ∙ ap (λ n. min n (get_or others k 0)) (are.dwells_are k less)
      ∙ ap (min (least_dwell runs k)) (others-are.dwells_are k less) ∙ sym (least_append (λ (r : Run). dwell_in r.calls k) runs more);
}

pub least_hop_most : (runs : List Run) (position : ℕ) → least_hop runs position ≤ most_seconds
least_hop_most runs position = least_most (λ (run : Run). hop_in run.calls position) runs

pub least_dwell_most : (runs : List Run) (position : ℕ) → least_dwell runs position ≤ most_seconds
least_dwell_most runs position = least_most (λ (run : Run). dwell_in run.calls position) runs

-- what is lowered, by other names
pub same_lowered : {A : Type 0} (time : List A → ℕ → ℕ) (read calls : List A) (was old new : List ℕ) → read ≡ calls → was ≡ old
    → IsLowered (time read) was new → IsLowered (time calls) old new
same_lowered {A} time read calls was old new same_calls same_old lowered =
    subst (λ (xs : List ℕ). IsLowered (time calls) xs new) same_old (subst (λ (cs : List A). IsLowered (time cs) was new) same_calls lowered)

-- what holds of two columns holds of the vectors that they are written to
pub write_back : (P : List ℕ → List ℕ → Type 0) (v w : Vec ℕ) (xs ys : List ℕ) → length xs ≡ length v.items → length ys ≡ length w.items
    → P xs ys → P (with_items v xs).items (with_items w ys).items
write_back P v w xs ys long wide h =
    let v_is : (with_items v xs).items ≡ xs = with_items_is v xs (long ∙ sym v.ok.0) in
    let w_is : (with_items w ys).items ≡ ys = with_items_is w ys (wide ∙ sym w.ok.0) in
    subst (λ (zs : List ℕ). P zs (with_items w ys).items) (sym v_is) (subst (λ (zs : List ℕ). P xs zs) (sym w_is) h)
