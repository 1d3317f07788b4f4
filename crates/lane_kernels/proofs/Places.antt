-- Groups of places beside one another, at any width.
use Rattle.std.proofs.Common.{◌≡◌, ℕ, ◌+◌, ◌*◌, ◌-◌, ◌<◌, ◌≤◌, ℤ, pos, ◌-ℤ◌, ◌≤ℤ◌, ◌<ℤ◌, Bool, true, false, ◌||◌, ◌&&◌, List, length, take, drop, ap, ◌∙◌, sym, subst, ⊎_elim, ltb, refl, ◌⊎◌, inl, inr, arith, length-drop}
use Rattle.std.proofs.lemmas.List.{get_or-drop, take_all}
use Rattle.std.specs.Bool.{MatchBool}
use borrow.Author.Tests.{ltb-true, ltb-false, both_ways}
use lib.Signed.{lt_z, le_z}
use Rattle.std.specs.Prelude.{◌↔◌}
use lib.Dec.{T}
use Rattle.std.proofs.lemmas.Int.{ints, by_lt_z}
use Rattle.lane_kernels.specs.Columns.{entry, IsFirstAtLeast, SomeCovers}
use Rattle.lane_kernels.specs.Lanes.{is_above, covers, SomeWithin, NoneWithin}
use Rattle.lane_kernels.proofs.Vectors.{by_test}

-- the places before a group, and the group
pub none_joined : (p : ℕ → Bool) (low middle high : ℕ) → NoneWithin p low middle → NoneWithin p middle high → NoneWithin p low high
none_joined p low middle high front back k from to = by_test (ltb k middle) (λ e. front k from (omega (arith, ltb-true))) (λ e. back k (omega (arith, ltb-false)) to)

or_false : (a b : Bool) → (a || b) ≡ false → (a ≡ false) × (b ≡ false)
or_false false b e = (refl, e)
or_false true b e = absurd (cc)

or_true : (a b : Bool) → (a || b) ≡ true → (a ≡ true) ⊎ (b ≡ true)
or_true true b e = inl refl
or_true false b e = inr e

-- four vectors of n lanes side by side, from `at` on
abbrev pub in_four : (ℕ → Bool) → ℕ → ℕ → ℕ → Bool
in_four p at n i = (p (at + i) || p ((at + n) + i)) || (p ((at + 2 * n) + i) || p ((at + 3 * n) + i))

some_in_four : (p : ℕ → Bool) (at n : ℕ) → SomeWithin (in_four p at n) 0 n → SomeWithin p at (at + 4 * n)
some_in_four p at n (i, low, high, e) =
    ⊎_elim
    (λ front. ⊎_elim (λ h. (at + i, omega arith, omega arith, h)) (λ h. ((at + n) + i, omega arith, omega arith, h)) (or_true (p (at + i)) (p ((at + n) + i)) front))
    (λ back. ⊎_elim (λ h. ((at + 2 * n) + i, omega arith, omega arith, h)) (λ h. ((at + 3 * n) + i, omega arith, omega arith, h)) (or_true (p ((at + 2 * n) + i)) (p ((at + 3 * n) + i)) back))
    (or_true (p (at + i) || p ((at + n) + i)) (p ((at + 2 * n) + i) || p ((at + 3 * n) + i)) e)

-- one of the vectors, from `base` on
none_in_one : (p : ℕ → Bool) (base n : ℕ) → ((i : ℕ) → i < n → p (base + i) ≡ false) → NoneWithin p base (base + n)
none_in_one p base n each k low high =
    let e : base + (k - base) ≡ k = omega arith in
    ap p (sym e) ∙ each (k - base) (omega arith)

none_in_four : (p : ℕ → Bool) (at n : ℕ) → NoneWithin (in_four p at n) 0 n → NoneWithin p at (at + 4 * n)
none_in_four p at n none =
    let halves : (i : ℕ) → i < n → ((p (at + i) || p ((at + n) + i)) ≡ false) × ((p ((at + 2 * n) + i) || p ((at + 3 * n) + i)) ≡ false) = λ i h. or_false _ _ (none i (omega arith) h) in
    let first : NoneWithin p at (at + n) = none_in_one p at n (λ i h. (or_false _ _ (halves i h).0).0) in
    let second : NoneWithin p (at + n) ((at + n) + n) = none_in_one p (at + n) n (λ i h. (or_false _ _ (halves i h).0).1) in
    let third : NoneWithin p (at + 2 * n) ((at + 2 * n) + n) = none_in_one p (at + 2 * n) n (λ i h. (or_false _ _ (halves i h).1).0) in
    let fourth : NoneWithin p (at + 3 * n) ((at + 3 * n) + n) = none_in_one p (at + 3 * n) n (λ i h. (or_false _ _ (halves i h).1).1) in
    λ k low high. by_test (ltb k (at + n)) (λ e. first k low (omega (arith, ltb-true)))
    (λ a. by_test (ltb k (at + 2 * n)) (λ e. second k (omega (arith, ltb-false)) (omega (arith, ltb-true)))
    (λ b. by_test (ltb k (at + 3 * n)) (λ e. third k (omega (arith, ltb-false)) (omega (arith, ltb-true)))
    (λ e. fourth k (omega (arith, ltb-false)) (omega arith))))

pub four_vectors : (p : ℕ → Bool) (at n : ℕ) (found : Bool)
    → MatchBool found (SomeWithin (in_four p at n) 0 n) (NoneWithin (in_four p at n) 0 n)
    → MatchBool found (SomeWithin p at (at + 4 * n)) (NoneWithin p at (at + 4 * n))
four_vectors p at n true h = some_in_four p at n h
four_vectors p at n false h = none_in_four p at n h

truth : (b : Bool) → T b → b ≡ true
truth true h = refl
truth false h = absurd h

below_limit : (z t : ℤ) → lt_z (t -ℤ pos 1) z ≡ false → z <ℤ t
below_limit z t e = by_lt_z (t -ℤ pos 1) z (λ h. absurd (both_ways (lt_z (t -ℤ pos 1) z) e (truth (lt_z (t -ℤ pos 1) z) h.lt))) (λ h. omega (arith, ints))

-- a slice from a place to the end
pub rest_is : (column : List ℤ) (at : ℕ) → take (length column - at) (drop at column) ≡ drop at column
rest_is column at = take_all (length column - at) (drop at column) (omega (arith, length-drop {A = ℤ}))

-- what is passed over, and what the plain loop finds in the rest
pub first_joined : (column : List ℤ) (t : ℤ) (at r : ℕ) → at ≤ length column → NoneWithin (is_above column (t -ℤ pos 1)) 0 at → IsFirstAtLeast (drop at column) t r → IsFirstAtLeast column t (at + r)
first_joined column t at r inside none rest =
    let here : (k : ℕ) → entry (drop at column) k ≡ entry column (at + k) = λ k. get_or-drop at column k (pos 0) in
    record {
      within = let low = rest.within in omega (arith, length-drop {A = ℤ});
      before = λ k h. by_test (ltb k at)
          (λ e. below_limit (entry column k) t (none k (omega arith) (omega (arith, ltb-true))))
          (λ e. let same : at + (k - at) ≡ k = omega (arith, ltb-false) in subst (λ (z : ℤ). z <ℤ t) (here (k - at) ∙ ap (entry column) same) (rest.before (k - at) (omega (arith, ltb-false))));
      here = λ h. subst (λ (z : ℤ). t ≤ℤ z) (here r) (rest.here (omega (arith, length-drop {A = ℤ})));
    }

and_truth : (a b : Bool) → T a → T b → (a && b) ≡ true
and_truth true true h k = refl
and_truth true false h k = absurd k
and_truth false b h k = absurd h

and_parts : (a b : Bool) → (a && b) ≡ true → T a × T b
and_parts true true e = (tt, tt)
and_parts true false e = absurd (cc)
and_parts false b e = absurd (cc)

some_covers : (times pens : List ℤ) (t p : ℤ) (at : ℕ) → SomeCovers (drop at times) (drop at pens) t p → SomeCovers times pens t p
some_covers times pens t p at (k, below, early, cheap) =
    (at + k, omega (arith, length-drop {A = ℤ}), subst (λ (z : ℤ). z ≤ℤ t) (get_or-drop at times k (pos 0)) early, subst (λ (z : ℤ). z ≤ℤ p) (get_or-drop at pens k (pos 0)) cheap)

covers_truth : (times pens : List ℤ) (t p : ℤ) (k : ℕ) → entry times k ≤ℤ t → entry pens k ≤ℤ p → covers times pens t p k ≡ true
covers_truth times pens t p k early cheap = and_truth (le_z (entry times k) t) (le_z (entry pens k) p) early.le cheap.le

-- the same of covering: no place before `at` covers, so a place that does is in the rest
pub covers_joined : (times pens : List ℤ) (t p : ℤ) (at : ℕ) (P : Type 0) → at ≤ length times → NoneWithin (covers times pens t p) 0 at
    → P ↔ SomeCovers (drop at times) (drop at pens) t p → P ↔ SomeCovers times pens t p
covers_joined times pens t p at P inside none rest = (
  λ h. some_covers times pens t p at (rest.0 h),
  λ (k, below, early, cheap). by_test (ltb k at)
      (λ e. absurd (both_ways (covers times pens t p k) (none k (omega arith) (omega (arith, ltb-true))) (covers_truth times pens t p k early cheap)))
      (λ e. let same : at + (k - at) ≡ k = omega (arith, ltb-false) in
      rest.1 (
        k - at,
        omega (arith, length-drop {A = ℤ}, ltb-false),
        subst (λ (z : ℤ). z ≤ℤ t) (sym (get_or-drop at times (k - at) (pos 0) ∙ ap (entry times) same)) early,
        subst (λ (z : ℤ). z ≤ℤ p) (sym (get_or-drop at pens (k - at) (pos 0) ∙ ap (entry pens) same)) cheap,
      )),
)

-- a place of a group that covers
pub some_in_group : (times pens : List ℤ) (t p : ℤ) (low high : ℕ) → high ≤ length times → SomeWithin (covers times pens t p) low high → SomeCovers times pens t p
some_in_group times pens t p low high inside (k, from, below, e) =
    let each = and_parts (le_z (entry times k) t) (le_z (entry pens k) p) e in
    (k, omega arith, record { le = each.0 }, record { le = each.1 })
