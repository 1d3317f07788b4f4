-- Vectors as functions of the lane, at any number of lanes.
use Rattle.std.proofs.Common.{◌≡◌, ℕ, zero, suc, ◌+◌, ◌*◌, ◌-◌, ◌%◌, ◌^◌, ◌<◌, ◌≤◌, ℤ, pos, Bool, true, false, cond, ltb, ◌||◌, ◌&&◌, not, eqb, List, map, ap, ◌∙◌, sym, subst, ⊎_elim, refl, ◌⊎◌, inl, inr, arith, zero-add, w64, to_z, of_z, SFits}
use lib.Lanes.{zip2, mask_l, top}
use lib.ListN.{replicate}
use borrow.Author.Tests.{ltb-true, ltb-false, eqb-true, eqb-false}
use lib.Signed.{lt_z, le_z}
use Rattle.std.specs.Int.Bits.{bit_and, bit_or}
use Rattle.std.specs.List.{range_with_len}
use Rattle.std.specs.Bool.{MatchBool}
use Rattle.std.proofs.lemmas.Simd.{zip2_of_maps, map-map, splat_is_map, mask_l-mod}
use Rattle.std.proofs.lemmas.List.FromFn.{fill_by_all, length-range_with_len, length-map-range_with_len, get_or-map-range_with_len}
use Rattle.std.proofs.lemmas.Int.{to_z-of_z}
use Rattle.lane_kernels.specs.Lanes.{lanes, flag, marks, SomeWithin, NoneWithin}

-- a splat
pub splat : (n : ℕ) (y : ℤ) → replicate n (of_z w64 y) ≡ map (of_z w64) (lanes (λ _. y) n)
splat n y = splat_is_map (range_with_len 0 n) n (of_z w64 y) (length-range_with_len 0 n) ∙ sym (map-map (of_z w64) (λ _. y) (range_with_len 0 n))

-- an operator on two vectors
pub lane_wise : (act : ℕ → ℕ → ℕ) (f g h : ℕ → ℤ) (n : ℕ) → ((i : ℕ) → i < n → to_z w64 (act (of_z w64 (f i)) (of_z w64 (g i))) ≡ h i)
    → map (to_z w64) (zip2 act (map (of_z w64) (lanes f n)) (map (of_z w64) (lanes g n))) ≡ lanes h n
lane_wise act f g h n each =
    let vs = range_with_len 0 n in
    let both : ℕ → ℤ = λ i. to_z w64 (act (of_z w64 (f i)) (of_z w64 (g i))) in
    ap (map (to_z w64)) (zip2_of_maps act (λ i. of_z w64 (f i)) (λ i. of_z w64 (g i)) vs (map-map (of_z w64) f vs) (map-map (of_z w64) g vs))
    ∙ map-map (to_z w64) (λ i. act (of_z w64 (f i)) (of_z w64 (g i))) vs
    ∙ fill_by_all h (map both vs) n (pos 0) (length-map-range_with_len both 0 n) (λ k below. get_or-map-range_with_len both 0 n k k (pos 0) below (zero-add k) ∙ each k below)

-- what is read back of a comparison
pub flag_lane : (b : Bool) → to_z w64 (cond b (2 ^ 64 - 1) 0) ≡ flag b
flag_lane true = refl
flag_lane false = refl

pub by_test : {P : Type 0} (b : Bool) → (b ≡ true → P) → (b ≡ false → P) → P
by_test true p q = p refl
by_test false p q = q refl

unset_lane : (b : Bool) (m : ℕ) → b ≡ false → 0 < cond b 1 0 + 2 * m → 0 < m
unset_lane true m e h = absurd (cc)
unset_lane false m e h = omega arith

le_along : {a b c : ℕ} → a ≡ b → b ≤ c → a ≤ c
le_along e h = omega arith

first_or_later : (a k : ℕ) → a ≤ k → (k ≡ a) ⊎ (a + 1 ≤ k)
first_or_later a k h = by_test (ltb a k) (λ e. inr (omega (arith, ltb-true))) (λ e. inl (omega (arith, ltb-false)))

set_lane : (b : Bool) (m : ℕ) → b ≡ true → cond b 1 0 + 2 * m ≡ 1 + 2 * m
set_lane true m e = refl
set_lane false m e = absurd (cc)

pub none_set : (p : ℕ → Bool) (a n : ℕ) → mask_l (map p (range_with_len a n)) ≡ 0 → NoneWithin p a (a + n)
none_set p a zero e k low high = absurd (omega arith)
none_set p a (suc n) e k low high =
    by_test (p a)
    (λ yes. let one = set_lane (p a) (mask_l (map p (range_with_len (a + 1) n))) yes in absurd (omega arith))
    (λ no. ⊎_elim (λ (same : k ≡ a). ap p same ∙ no) (λ (past : a + 1 ≤ k). none_set p (a + 1) n (omega arith) k past (omega arith)) (first_or_later a k low))

pub some_set : (p : ℕ → Bool) (a n : ℕ) → 0 < mask_l (map p (range_with_len a n)) → SomeWithin p a (a + n)
some_set p a zero h = absurd (omega arith)
some_set p a (suc n) h =
    by_test (p a)
    (λ yes. (a, omega arith, omega arith, yes))
    (λ no. let rest = some_set p (a + 1) n (unset_lane (p a) (mask_l (map p (range_with_len (a + 1) n))) no h) in (rest.0, omega arith, omega arith, rest.3))

above_zero : (m : ℕ) → ¬ (m ≡ 0) → 0 < m
above_zero zero h = absurd (h refl)
above_zero (suc m) h = omega arith

by_zero : {P Q : Type 0} (m : ℕ) → (0 < m → P) → (m ≡ 0 → Q) → MatchBool (not (eqb m 0)) P Q
by_zero {P} {Q} m p q =
    let Is : Bool → Type 0 = λ b. MatchBool (not b) P Q in
    by_test (eqb m 0) (λ e. subst Is (sym e) (q (eqb-true m 0 e))) (λ e. subst Is (sym e) (p (above_zero m (eqb-false m 0 e))))

flag_set : (b : Bool) → top 63 (of_z w64 (flag b)) ≡ b
flag_set true = refl
flag_set false = refl

-- the lanes of a mask, as `to_bitmask` reads them
marks_read : (p : ℕ → Bool) (n : ℕ) → map (top 63) (map (of_z w64) (marks p n)) ≡ map p (range_with_len 0 n)
marks_read p n =
    let vs = range_with_len 0 n in
    ap (map (top 63)) (map-map (of_z w64) (λ i. flag (p i)) vs) ∙ map-map (top 63) (λ i. of_z w64 (flag (p i))) vs ∙ (λ j. map (λ i. flag_set (p i) j) vs)

-- whether a mask has a lane that is set
pub any_lane : (p : ℕ → Bool) (n : ℕ) → n ≤ 64
    → MatchBool (not (eqb (mask_l (map (top 63) (map (of_z w64) (marks p n))) % 2 ^ 64) 0)) (SomeWithin p 0 n) (NoneWithin p 0 n)
any_lane p n small =
    let bits = mask_l (map p (range_with_len 0 n)) in
    let read : mask_l (map (top 63) (map (of_z w64) (marks p n))) % 2 ^ 64 ≡ bits =
    ap (λ ms. mask_l ms % 2 ^ 64) (marks_read p n) ∙ mask_l-mod (map p (range_with_len 0 n)) 64 (le_along (length-map-range_with_len p 0 n) small) in
    let Is : ℕ → ℕ → Type 0 = λ m high. MatchBool (not (eqb m 0)) (SomeWithin p 0 high) (NoneWithin p 0 high) in
    subst (λ m. Is m n) (sym read) (subst (λ high. Is bits high) (zero-add n) (by_zero bits (some_set p 0 n) (none_set p 0 n)))

-- a comparison of each lane with a number, on either side
pub above_lanes : (n : ℕ) (limit : ℤ) (xs : List ℤ) (f : ℕ → ℤ) → SFits w64 limit → xs ≡ lanes f n → ((i : ℕ) → i < n → SFits w64 (f i))
    → map (to_z w64) (zip2 (λ a b. cond (lt_z (to_z w64 a) (to_z w64 b)) (2 ^ 64 - 1) 0) (replicate n (of_z w64 limit)) (map (of_z w64) xs)) ≡ marks (λ i. lt_z limit (f i)) n
above_lanes n limit xs f fits e each =
    let act : ℕ → ℕ → ℕ = λ a b. cond (lt_z (to_z w64 a) (to_z w64 b)) (2 ^ 64 - 1) 0 in
    (λ j. map (to_z w64) (zip2 act (splat n limit j) (map (of_z w64) (e j))))
    ∙ lane_wise act (λ _. limit) f (λ i. flag (lt_z limit (f i))) n
    (λ i h. flag_lane (lt_z (to_z w64 (of_z w64 limit)) (to_z w64 (of_z w64 (f i)))) ∙ (λ j. flag (lt_z (to_z-of_z w64 limit fits j) (to_z-of_z w64 (f i) (each i h) j))))

pub at_most_lanes : (n : ℕ) (limit : ℤ) (xs : List ℤ) (f : ℕ → ℤ) → SFits w64 limit → xs ≡ lanes f n → ((i : ℕ) → i < n → SFits w64 (f i))
    → map (to_z w64) (zip2 (λ a b. cond (le_z (to_z w64 a) (to_z w64 b)) (2 ^ 64 - 1) 0) (map (of_z w64) xs) (replicate n (of_z w64 limit))) ≡ marks (λ i. le_z (f i) limit) n
at_most_lanes n limit xs f fits e each =
    let act : ℕ → ℕ → ℕ = λ a b. cond (le_z (to_z w64 a) (to_z w64 b)) (2 ^ 64 - 1) 0 in
    (λ j. map (to_z w64) (zip2 act (map (of_z w64) (e j)) (splat n limit j)))
    ∙ lane_wise act f (λ _. limit) (λ i. flag (le_z (f i) limit)) n
    (λ i h. flag_lane (le_z (to_z w64 (of_z w64 (f i))) (to_z w64 (of_z w64 limit))) ∙ (λ j. flag (le_z (to_z-of_z w64 (f i) (each i h) j) (to_z-of_z w64 limit fits j))))

-- an operator on two masks
pub masked : (act : ℕ → ℕ → ℕ) (test : Bool → Bool → Bool) → ((a b : Bool) → to_z w64 (act (of_z w64 (flag a)) (of_z w64 (flag b))) ≡ flag (test a b))
    → (n : ℕ) (xs ys : List ℤ) (p q : ℕ → Bool) → xs ≡ marks p n → ys ≡ marks q n → map (to_z w64) (zip2 act (map (of_z w64) xs) (map (of_z w64) ys)) ≡ marks (λ i. test (p i) (q i)) n
masked act test each n xs ys p q e h =
    (λ j. map (to_z w64) (zip2 act (map (of_z w64) (e j)) (map (of_z w64) (h j))))
    ∙ lane_wise act (λ i. flag (p i)) (λ i. flag (q i)) (λ i. flag (test (p i) (q i))) n (λ i below. each (p i) (q i))

pub or_flags : (a b : Bool) → to_z w64 (bit_or (of_z w64 (flag a)) (of_z w64 (flag b))) ≡ flag (a || b)
or_flags true true = refl
or_flags true false = refl
or_flags false true = refl
or_flags false false = refl

pub and_flags : (a b : Bool) → to_z w64 (bit_and (of_z w64 (flag a)) (of_z w64 (flag b))) ≡ flag (a && b)
and_flags true true = refl
and_flags true false = refl
and_flags false true = refl
and_flags false false = refl

-- a vector that is handed on
pub again : (n : ℕ) (xs : List ℤ) (f : ℕ → ℤ) → xs ≡ lanes f n → ((i : ℕ) → i < n → SFits w64 (f i)) → map (to_z w64) (map (of_z w64) xs) ≡ lanes f n
again n xs f e each =
    let vs = range_with_len 0 n in
    let back : ℕ → ℤ = λ i. to_z w64 (of_z w64 (f i)) in
    (λ j. map (to_z w64) (map (of_z w64) (e j))) ∙ ap (map (to_z w64)) (map-map (of_z w64) f vs) ∙ map-map (to_z w64) (λ i. of_z w64 (f i)) vs
    ∙ fill_by_all f (map back vs) n (pos 0) (length-map-range_with_len back 0 n) (λ k below. get_or-map-range_with_len back 0 n k k (pos 0) below (zero-add k) ∙ to_z-of_z w64 (f k) (each k below))

flag_fits : (b : Bool) → SFits w64 (flag b)
flag_fits true = record { sfits = omega arith }
flag_fits false = record { sfits = omega arith }

pub mask_again : (n : ℕ) (xs : List ℤ) (p : ℕ → Bool) → xs ≡ marks p n → map (to_z w64) (map (of_z w64) xs) ≡ marks p n
mask_again n xs p e = again n xs (λ i. flag (p i)) e (λ i h. flag_fits (p i))
