-- Stops from south to north.
use Rattle.std.proofs.Common.{arith, unsigned_abs, pos, negsuc, ◌⊎◌, ◌+ℤ◌, ◌-ℤ◌, ◌≡◌, ℕ, ℤ, ◌+◌, ◌*◌, ◌-◌, ◌<◌, ◌≤◌, eqb, List, length, get_or, Some, inl, inr, refl, sym, ap, subst, ◌∙◌}
use Rattle.std.specs.List.{Contains, dedup, slice_get}
use Rattle.std.specs.List.Sorted.{IsNonDecreasingBy, IsPermutation, IsSorted}
use Rattle.std.specs.Ordering.{nat_cmp}
use Rattle.std.proofs.lemmas.Bool.{cases_lt}
use Rattle.std.proofs.lemmas.Int.{ints}
use Rattle.std.proofs.lemmas.List.Elements.{All-contains, Contains-get_or}
use Rattle.std.proofs.lemmas.List.Kept.{Contains-dedup_nat, Contains-from_dedup}
use Rattle.std.proofs.lemmas.List.Sorted.{All-permutation, Contains-permutation, IsPermutation-sym}
use Rattle.std.proofs.lemmas.Map.Keys.{IsStrictlyIncreasing-dedup}
use Rattle.std.proofs.lemmas.Nat.{mul-lt}
use Rattle.std.proofs.lemmas.Option.{same_Some, slice_get-get_or, slice_get_within}
use Rattle.otp_base.specs.EachAt.{EachAt}
use Rattle.otp_base.proofs.EachAtLemmas.{each_read}
use Rattle.otp_model.specs.declared.links.TransferRow.{TransferRow}
use Rattle.otp_model.specs.declared.timetable.Profile.{Profile}
use Rattle.otp_model.specs.declared.timetable.Stop.{Stop}
use Rattle.otp_model.specs.Plane.{point_of, square_apart}
use Rattle.walk_table.specs.Near.{AreAllNumbers, AreCandidates, AreNumbersAround, AreNumbersFrom, AreStandings, IsAround, IsStandingAt, standing_of}
use Rattle.walk_table.specs.declared.near.Standing.{Standing}

abbrev north_of : Standing → ℕ
north_of standing = standing.north

same_standing : (south : ℤ) (stops : List Stop) (place : ℕ) (stop : Stop) (standing : Standing) → slice_get stops place ≡ Some stop → IsStandingAt south stops place standing → standing ≡ standing_of south place stop
same_standing south stops place stop standing e h = subst (λ (s : Stop). standing ≡ standing_of south place s) (same_Some h.0 stop (sym h.1 ∙ e)) h.2

pub standings_sorted : (south : ℤ) (stops : List Stop) (xs ys : List Standing) → EachAt (IsStandingAt south stops) xs → length xs ≡ length stops → IsPermutation xs ys → IsNonDecreasingBy north_of ys → AreStandings south stops ys
standings_sorted south stops xs ys each count permuted sorted = record {
  rise = sorted;
  has = λ number stop e.
      let within : number < length xs = omega (arith, slice_get_within stops number stop e, count) in
      let d : Standing = standing_of south number stop in
      let at : IsStandingAt south stops number (get_or xs number d) = each_read (IsStandingAt south stops) xs number d each within in
      let same = same_standing south stops number stop (get_or xs number d) e at in
      Contains-permutation xs ys d permuted (subst (Contains xs) same (Contains-get_or xs number d within));
  within = All-permutation (λ (standing : Standing). standing.number < length stops) xs ys permuted
      (λ k d less.
      let at : IsStandingAt south stops k (get_or xs k d) = each_read (IsStandingAt south stops) xs k d each less in
      subst (λ (s : Standing). s.number < length stops) (sym at.2) (omega (arith, less, count)));
}

-- what stands from the first place that is not too far south up to the last that is not too far north is all around
pub numbers_all : (standings : List Standing) (north reach low start : ℕ) (numbers sorted : List ℕ) → low ≡ north - reach
    → ((place : ℕ) (d : Standing) → place < start → (get_or standings place d).north < low) → AreNumbersFrom standings start (north + reach) numbers
    → IsPermutation numbers sorted → IsSorted nat_cmp sorted → AreNumbersAround standings north reach (dedup eqb sorted)
numbers_all standings north reach low start numbers sorted is_low south from permuted in_order = record {
  rise = IsStrictlyIncreasing-dedup sorted in_order;
  has = λ standing on around.
      let place = on.0 in
      let is : slice_get standings place ≡ Some standing = slice_get-get_or standings place standing on.1 ∙ ap (λ (s : Standing). Some s) on.2 in
      Contains-dedup_nat sorted standing.number (Contains-permutation numbers sorted standing.number permuted (elim (cases_lt place start) [
        | inl before ↦ absurd (let far : standing.north < low = subst (λ (s : Standing). s.north < low) on.2 (south place standing before) in omega (arith, far, around.0, around.1))
        | inr behind ↦ from.0 place standing behind is (omega (arith, around.0, around.1))
      ]));
  only = λ number h. from.1 number (Contains-permutation sorted numbers number (IsPermutation-sym numbers sorted permuted) (Contains-from_dedup eqb sorted number h));
}

-- a whole number is its size, or the size below nothing
sizes : (z : ℤ) → (z ≡ pos (unsigned_abs z)) ⊎ (z +ℤ pos (unsigned_abs z) ≡ pos 0)
sizes (pos n) = inl refl
sizes (negsuc n) = inr (omega (arith, ints))

-- two places are as far apart from a third as from one another at most
pub triangle : (a b south : ℤ) (reach : ℕ) → unsigned_abs (a -ℤ b) ≤ reach → unsigned_abs (a -ℤ south) ≤ unsigned_abs (b -ℤ south) + reach
triangle a b south reach h = elim (sizes (a -ℤ b)) [
  | inl x ↦ elim (sizes (a -ℤ south)) [
    | inl y ↦ elim (sizes (b -ℤ south)) [ inl z ↦ omega (arith, ints, x, y, z, h) | inr z ↦ omega (arith, ints, x, y, z, h) ]
    | inr y ↦ elim (sizes (b -ℤ south)) [ inl z ↦ omega (arith, ints, x, y, z, h) | inr z ↦ omega (arith, ints, x, y, z, h) ]
  ]
  | inr x ↦ elim (sizes (a -ℤ south)) [
    | inl y ↦ elim (sizes (b -ℤ south)) [ inl z ↦ omega (arith, ints, x, y, z, h) | inr z ↦ omega (arith, ints, x, y, z, h) ]
    | inr y ↦ elim (sizes (b -ℤ south)) [ inl z ↦ omega (arith, ints, x, y, z, h) | inr z ↦ omega (arith, ints, x, y, z, h) ]
  ]
]

apart_swap : (a b : ℤ) → unsigned_abs (a -ℤ b) ≡ unsigned_abs (b -ℤ a)
apart_swap a b = elim (sizes (a -ℤ b)) [
  | inl x ↦ elim (sizes (b -ℤ a)) [ inl y ↦ omega (arith, ints, x, y) | inr y ↦ omega (arith, ints, x, y) ]
  | inr x ↦ elim (sizes (b -ℤ a)) [ inl y ↦ omega (arith, ints, x, y) | inr y ↦ omega (arith, ints, x, y) ]
]

-- within reach, no farther apart in the north
north_within : (from to : Stop) (reach : ℕ) → square_apart (point_of from) (point_of to) ≤ reach * reach → unsigned_abs (from.y -ℤ to.y) ≤ reach
north_within from to reach h = elim (cases_lt reach (unsigned_abs (from.y -ℤ to.y))) [
  | inl far ↦ absurd (omega (arith, mul-lt reach reach (unsigned_abs (from.y -ℤ to.y)) (unsigned_abs (from.y -ℤ to.y)) far far, h))
  | inr near ↦ near
]

-- without rows all edges lead to stops around
pub candidates_around : (south : ℤ) (stops : List Stop) (standings : List Standing) (rows : List TransferRow) (profile : Profile) (p : ℕ) (from : Stop) (numbers : List ℕ) → AreStandings south stops standings → slice_get stops p ≡ Some from → length rows ≡ 0
    → AreNumbersAround standings (unsigned_abs (from.y -ℤ south)) profile.reach numbers → AreCandidates stops rows profile p from numbers
candidates_around south stops standings rows profile p from numbers stands at none around = record {
  rise = around.rise;
  has = λ n to edge is h.
      let near : IsAround profile.reach (unsigned_abs (from.y -ℤ south)) (unsigned_abs (to.y -ℤ south)) = elim h.1.given [
        | inl same ↦
            let one : from ≡ to = same_Some from to (sym at ∙ ap (λ k. slice_get stops k) (same ∙ h.0) ∙ is) in
            subst (λ (t : Stop). IsAround profile.reach (unsigned_abs (from.y -ℤ south)) (unsigned_abs (t.y -ℤ south))) one (omega arith, omega arith)
        | inr way ↦ elim way [
          | inl reach ↦
              let apart = north_within from to profile.reach reach.2 in
              (triangle from.y to.y south profile.reach apart, triangle to.y from.y south profile.reach (subst (λ (k : ℕ). k ≤ profile.reach) (apart_swap from.y to.y) apart))
          | inr row ↦ absurd (omega (arith, row.1.0.1, none))
        ]
      ] in
      around.has (standing_of south n to) (stands.has n to is) near;
  within = λ k d less.
      let on = around.only (get_or numbers k d) (Contains-get_or numbers k d less) in
      subst (λ (n : ℕ). n < length stops) (sym on.2) (All-contains (λ (standing : Standing). standing.number < length stops) standings on.0 stands.within on.1);
}

-- all stops
pub candidates_all : (stops : List Stop) (rows : List TransferRow) (profile : Profile) (p : ℕ) (from : Stop) (numbers : List ℕ) → AreAllNumbers (length stops) numbers → AreCandidates stops rows profile p from numbers
candidates_all stops rows profile p from numbers all = record {
  rise = λ k less.
      let here : get_or numbers k 0 ≡ k = each_read (λ place number. number ≡ place) numbers k 0 all.each (omega (arith, less)) in
      let next : get_or numbers (k + 1) 0 ≡ k + 1 = each_read (λ place number. number ≡ place) numbers (k + 1) 0 all.each less in
      omega (arith, here, next);
  has = λ n to edge is h.
      let less : n < length numbers = omega (arith, slice_get_within stops n to is, all.count_is) in
      (n, less, each_read (λ place number. number ≡ place) numbers n n all.each less);
  within = λ k d less. subst (λ (n : ℕ). n < length stops) (sym (each_read (λ place number. number ≡ place) numbers k d all.each less)) (omega (arith, less, all.count_is));
}
