-- Squares of differences, and marks of points.
use Rattle.std.proofs.Common.{◌≡◌, ℕ, ◌+◌, ◌*◌, ◌<◌, ◌≤◌, ℤ, pos, negsuc, ◌+ℤ◌, ◌≤ℤ◌, ◌<ℤ◌, neg_ℤ, ◌⊎◌, inl, inr, ⊎_elim, ◌&&◌, Bool, true, false, leb, min, List, length, get_or, ap, ◌∙◌, sym, subst, refl, arith, ltb, rules, SFits, w64, to_z, of_z, ◌-ℤ◌, set, eqb, false, get_or-set_same, get_or-set_other}
use Rattle.std.specs.Int.RustNames.{unsigned_abs}
use Rattle.std.proofs.Math.Nat.{mul-le-mul, mul-le-mul_left, mul-lt-mul_of_pos_right, lt_of_le_of_lt, le_of_lt}
use borrow.Author.Tests.{lt-leb, leb-true, leb-false, ltb-true, ltb-false, eqb-true, eqb-false}
use lib.Signed.{le_z, lt_z}
use lib.Dec.{T}
use Rattle.lane_kernels.specs.Lanes.{is_between}
use Rattle.lane_kernels.specs.Columns.{entry, square, is_in_reach, is_within, AreMarked, IsEachMarked, IsReach, IsCoordinate}
use Rattle.lane_kernels.proofs.Vectors.{by_test}
use Rattle.std.proofs.lemmas.Int.{ints, to_z-of_z, by_lt_z}
use Rattle.std.specs.Prelude.{IsTrue, ◌↔◌, not}

pub square_abs : (d : ℤ) → square d ≡ pos (unsigned_abs d * unsigned_abs d)
square_abs (pos n) = refl
square_abs (negsuc n) = refl

-- the test over natural numbers
pub in_reach_abs : (dx dy reach : ℤ) → is_in_reach dx dy reach ≡ leb (unsigned_abs dx * unsigned_abs dx + unsigned_abs dy * unsigned_abs dy) (unsigned_abs reach * unsigned_abs reach)
in_reach_abs dx dy reach = λ j. le_z (square_abs dx j +ℤ square_abs dy j) (square_abs reach j)

pub square_below : (a r : ℕ) → r < a → r * r < a * a
square_below a r h = lt_of_le_of_lt (mul-le-mul_left r (le_of_lt h)) (mul-lt-mul_of_pos_right h (omega arith))

pub square_at_most : (a r : ℕ) → a ≤ r → a * a ≤ r * r
square_at_most a r h = mul-le-mul h h

-- a difference beyond the reach
pub far_across : (dx dy reach : ℤ) → unsigned_abs reach < unsigned_abs dx → is_in_reach dx dy reach ≡ false
far_across dx dy reach h = let beyond = square_below (unsigned_abs dx) (unsigned_abs reach) h in in_reach_abs dx dy reach ∙ lt-leb _ _ (omega arith)

pub far_along : (dx dy reach : ℤ) → unsigned_abs reach < unsigned_abs dy → is_in_reach dx dy reach ≡ false
far_along dx dy reach h = let beyond = square_below (unsigned_abs dy) (unsigned_abs reach) h in in_reach_abs dx dy reach ∙ lt-leb _ _ (omega arith)

is_true : (t : Bool) → T t → t ≡ true
is_true true h = refl
is_true false h = absurd h

pub reach_bound : (reach : ℤ) → IsReach reach → unsigned_abs reach ≤ 5000000
reach_bound (pos n) (low, high) = leb-true n 5000000 (is_true (leb n 5000000) high.le)
reach_bound (negsuc n) (low, high) = absurd low.le

pub diff_fits : (z x : ℤ) → IsCoordinate z → IsCoordinate x → SFits w64 (z -ℤ x)
diff_fits z x (a, b) (p, q) = search (rules, ints)

at_test : (t : Bool) (P : Type 0) → (T t → P) → (P → T t) → IsTrue t ↔ P
at_test true P to from = (λ h. to tt, λ p. refl)
at_test false P to from = (λ h. absurd (cc), λ p. absurd (from p))

truth : (b : Bool) (m n : ℤ) → b ≡ le_z m n → IsTrue b ↔ (m ≤ℤ n)
truth b m n e = subst (λ (t : Bool). IsTrue t ↔ (m ≤ℤ n)) (sym e) (at_test (le_z m n) (m ≤ℤ n) (λ h. record { le = h }) (λ h. h.le))

pub coordinate_fits : (z : ℤ) → IsCoordinate z → SFits w64 z
coordinate_fits z (a, b) = search (rules, ints)

-- a difference as the code has it
pub seen : (z x : ℤ) → IsCoordinate z → IsCoordinate x → to_z w64 (of_z w64 (to_z w64 (of_z w64 z) -ℤ to_z w64 (of_z w64 x))) ≡ z -ℤ x
seen z x h k = (λ j. to_z w64 (of_z w64 (to_z-of_z w64 z (coordinate_fits z h) j -ℤ to_z-of_z w64 x (coordinate_fits x k) j))) ∙ to_z-of_z w64 (z -ℤ x) (diff_fits z x h k)

-- one more mark
pub marked_more : (xs ys : List ℤ) (x y reach : ℤ) (low at : ℕ) (marks : List Bool) (b : Bool) → at < length marks → AreMarked xs ys x y reach low at marks → b ≡ is_within xs ys x y reach at
    → AreMarked xs ys x y reach low (at + 1) (set marks at b)
marked_more xs ys x y reach low at marks b inside before here k from below =
    by_test (eqb k at)
    (λ e. let same : k ≡ at = eqb-true k at e in ap (λ i. get_or (set marks at b) i false) same ∙ get_or-set_same marks at b false inside ∙ here ∙ ap (is_within xs ys x y reach) (sym same))
    (λ e. get_or-set_other marks at k b false (eqb-false k at e) ∙ before k from (omega (arith, eqb-false k at e)))

-- the clause, from the marks of all places
pub each_marked : (xs ys : List ℤ) (x y reach : ℤ) (marks : List Bool) → AreMarked xs ys x y reach 0 (length xs) marks → IsEachMarked xs ys x y reach marks
each_marked xs ys x y reach marks all = record { each = λ k h. truth _ _ _ (all k (omega arith) h) }

-- ---- a group with no point within reach

above_reach : (d r : ℤ) → pos 0 ≤ℤ r → r <ℤ d → unsigned_abs r < unsigned_abs d
above_reach (pos m) (pos n) positive h = omega (arith, ints)
above_reach (pos m) (negsuc n) positive h = absurd positive.le
above_reach (negsuc m) (pos n) positive h = absurd h.lt
above_reach (negsuc m) (negsuc n) positive h = absurd positive.le

below_reach : (d r : ℤ) → pos 0 ≤ℤ r → d <ℤ neg_ℤ r → unsigned_abs r < unsigned_abs d
below_reach (pos m) (pos n) positive h = absurd (omega (arith, ints))
below_reach (pos m) (negsuc n) positive h = absurd positive.le
below_reach (negsuc m) (pos n) positive h = omega (arith, ints)
below_reach (negsuc m) (negsuc n) positive h = absurd positive.le

both_false : (a b : Bool) → T a → T b → (a && b) ≡ false → ⊥
both_false true true h k e = cc
both_false true false h k e = k
both_false false b h k e = h

beyond : (d r : ℤ) → pos 0 ≤ℤ r → (r <ℤ d) ⊎ (d <ℤ neg_ℤ r) → unsigned_abs r < unsigned_abs d
beyond d r positive (inl h) = above_reach d r positive h
beyond d r positive (inr h) = below_reach d r positive h

-- an entry outside of the strip round x
outside : (low high e : ℤ) → (lt_z low e && le_z e high) ≡ false → (high <ℤ e) ⊎ (e ≤ℤ low)
outside low high e h = by_lt_z low e (λ over. inl (by_lt_z high e (λ k. k) (λ under. absurd (both_false (lt_z low e) (le_z e high) over.lt under.le h)))) (λ under. inr under)

outside_strip : (e x reach : ℤ) → IsReach reach → (lt_z ((x -ℤ reach) -ℤ pos 1) e && le_z e (x +ℤ reach)) ≡ false → unsigned_abs reach < unsigned_abs (e -ℤ x)
outside_strip e x reach near h =
    beyond (e -ℤ x) reach near.0 (⊎_elim (λ (k : (x +ℤ reach) <ℤ e). inl (omega (arith, ints))) (λ (k : e ≤ℤ ((x -ℤ reach) -ℤ pos 1)). inr (omega (arith, ints))) (outside ((x -ℤ reach) -ℤ pos 1) (x +ℤ reach) e h))

pub none_across : (xs ys : List ℤ) (x y reach : ℤ) (k : ℕ) → IsReach reach → is_between xs ((x -ℤ reach) -ℤ pos 1) (x +ℤ reach) k ≡ false → is_within xs ys x y reach k ≡ false
none_across xs ys x y reach k near h = far_across (entry xs k -ℤ x) (entry ys k -ℤ y) reach (outside_strip (entry xs k) x reach near h)

pub none_along : (xs ys : List ℤ) (x y reach : ℤ) (k : ℕ) → IsReach reach → is_between ys ((y -ℤ reach) -ℤ pos 1) (y +ℤ reach) k ≡ false → is_within xs ys x y reach k ≡ false
none_along xs ys x y reach k near h = far_along (entry xs k -ℤ x) (entry ys k -ℤ y) reach (outside_strip (entry ys k) y reach near h)

-- the edges of the strip, as the code has them
low_edge : (x r : ℤ) → IsCoordinate x → IsReach r → to_z w64 (of_z w64 (to_z w64 (of_z w64 (to_z w64 (of_z w64 x) -ℤ to_z w64 (of_z w64 r))) -ℤ pos 1)) ≡ (x -ℤ r) -ℤ pos 1
low_edge x r (a, b) (p, q) = omega (arith, ints)

high_edge : (x r : ℤ) → IsCoordinate x → IsReach r → to_z w64 (of_z w64 (to_z w64 (of_z w64 x) +ℤ to_z w64 (of_z w64 r))) ≡ x +ℤ r
high_edge x r (a, b) (p, q) = omega (arith, ints)

-- the marks of the groups so far, and those of the next places
pub marks_joined : (xs ys : List ℤ) (x y reach : ℤ) (low middle high : ℕ) (before after : List Bool) → AreMarked xs ys x y reach low middle before
    → ((k : ℕ) → k < middle → get_or after k false ≡ get_or before k false) → AreMarked xs ys x y reach middle high after → AreMarked xs ys x y reach low high after
marks_joined xs ys x y reach low middle high before after front kept back k from below =
    by_test (ltb k middle) (λ e. kept k (ltb-true k middle e) ∙ front k from (ltb-true k middle e)) (λ e. back k (ltb-false k middle e) below)

pub strip_seen : (column : List ℤ) (x r : ℤ) (k : ℕ) → IsCoordinate x → IsReach r
    → is_between column (to_z w64 (of_z w64 (to_z w64 (of_z w64 (to_z w64 (of_z w64 x) -ℤ to_z w64 (of_z w64 r))) -ℤ pos 1))) (to_z w64 (of_z w64 (to_z w64 (of_z w64 x) +ℤ to_z w64 (of_z w64 r)))) k ≡ is_between column ((x -ℤ r) -ℤ pos 1) (x +ℤ r) k
strip_seen column x r k h near = λ j. is_between column (low_edge x r h near j) (high_edge x r h near j) k

pub is_false : (b : Bool) → IsTrue (not b) → b ≡ false
is_false true e = absurd (cc)
is_false false e = refl

-- a difference past the greatest reach, cut off
kept : (a : ℕ) → a ≤ 5000000 → min a 5000001 ≡ a
kept a h = omega arith

cut : (a r : ℕ) → r ≤ 5000000 → 5000000 < a → r < min a 5000001
cut a r small h = omega arith

pub clamped : (a b r : ℕ) → r ≤ 5000000 → leb (min a 5000001 * min a 5000001 + min b 5000001 * min b 5000001) (r * r) ≡ leb (a * a + b * b) (r * r)
clamped a b r small =
    by_test (leb a 5000000)
    (λ e. by_test (leb b 5000000)
    (λ f. λ j. leb (kept a (leb-true a 5000000 e) j * kept a (leb-true a 5000000 e) j + kept b (leb-true b 5000000 f) j * kept b (leb-true b 5000000 f) j) (r * r))
    (λ f. let far = square_below (min b 5000001) r (cut b r small (leb-false b 5000000 f)) in let past = square_below b r (omega (arith, leb-false b 5000000 f)) in lt-leb _ _ (omega arith) ∙ sym (lt-leb _ _ (omega arith))))
    (λ e. let far = square_below (min a 5000001) r (cut a r small (leb-false a 5000000 e)) in let past = square_below a r (omega (arith, leb-false a 5000000 e)) in lt-leb _ _ (omega arith) ∙ sym (lt-leb _ _ (omega arith)))
