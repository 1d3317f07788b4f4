-- Lists of numbers that rise.
use Rattle.std.proofs.Common.{◌≡◌, ◌≢◌, ◌⊎◌, ℕ, suc, ◌+◌, ◌<◌, Bool, true, false, cond, List, [], ◌∷◌, get_or, refl, sym, ap, subst, ◌∙◌, inl, inr, arith}
use Rattle.std.specs.List.{All, AllPairs, AllByRecursion, Contains, IsDistinct, filter, range_with_len}
use Rattle.std.specs.List.Sorted.{IsPermutation, IsSorted, IsStrictlyIncreasing}
use Rattle.std.specs.Ordering.{nat_cmp}
use Rattle.std.specs.Prelude.{nat_eq}
use Rattle.std.proofs.lemmas.Bool.{ne_eqb}
use Rattle.std.proofs.lemmas.List.Elements.{All-cons, All-contains, All-nil, Contains-append_cases, Contains-append_left, Contains-append_right, Contains-get_or, Contains-push_cases, filter_passes}
use Rattle.std.proofs.lemmas.List.FromFn.{get_or-range_with_len, length-range_with_len}
use Rattle.std.proofs.lemmas.List.Kept.{AllPairs-cons, AllPairs-from_increasing, IsStrictlyIncreasing-filter}
use Rattle.std.proofs.lemmas.List.Sorted.{IsNonDecreasingBy-from_sort}
use Rattle.std.proofs.lemmas.Map.Keys.{IsDistinct-IsPermutation, IsDistinct-cons, IsDistinct-head, IsDistinct-tail, IsStrictlyIncreasing-from_distinct}

module _ {X : Type 0} (e : X → X → Bool) where
  each_from : (x : X) (xs : List X) → AllByRecursion (λ (y : X). e x y ≡ false) xs → All (λ (y : X). e x y ≡ false) xs
  each_from x [] h = All-nil (λ (y : X). e x y ≡ false)
  each_from x (y ∷ ys) h = All-cons (λ (y : X). e x y ≡ false) y ys h.0 (each_from x ys h.1)

  -- no two of a list are the same by a test, both ways of saying it
  pub pairs_from_distinct : (xs : List X) → IsDistinct e xs → AllPairs (λ (x : X) (y : X). e x y ≡ false) xs
  pairs_from_distinct [] h = λ i j d less within. absurd (omega arith)
  pairs_from_distinct (x ∷ xs) h =
      AllPairs-cons (λ (x : X) (y : X). e x y ≡ false) x xs (each_from x xs (IsDistinct-head e x xs h)) (pairs_from_distinct xs (IsDistinct-tail e x xs h))

  each_to : (x : X) (xs : List X) → All (λ (y : X). e x y ≡ false) xs → AllByRecursion (λ (y : X). e x y ≡ false) xs
  each_to x [] h = tt
  each_to x (y ∷ ys) h = (h 0 y (omega arith), each_to x ys (λ k d less. h (suc k) d (omega (arith, less))))

  pub distinct_from_pairs : (xs : List X) → AllPairs (λ (x : X) (y : X). e x y ≡ false) xs → IsDistinct e xs
  unfolding IsDistinct
  distinct_from_pairs [] h = tt
  distinct_from_pairs (x ∷ xs) h =
      IsDistinct-cons e x xs (each_to x xs (λ k d less. h 0 (suc k) d (omega arith) (omega (arith, less))))
      (distinct_from_pairs xs (λ i j d less within. h (suc i) (suc j) d (omega (arith, less)) (omega (arith, within))))

abbrev pub AreRising : List ℕ → Type 0
AreRising xs = AllPairs (λ (a : ℕ) (b : ℕ). a < b) xs

nowhere : (t : ℕ) → Contains [] t → ⊥
nowhere t (k, below, is) = omega (arith, below)

first_or_later : (x : ℕ) (xs : List ℕ) (t : ℕ) → Contains (x ∷ xs) t → (x ≡ t) ⊎ Contains xs t
first_or_later x xs t h = elim (Contains-append_cases (x ∷ []) xs t h) [
  | inl first ↦ elim (Contains-push_cases [] x t first) [ inl none ↦ absurd (nowhere t none) | inr same ↦ inl same ]
  | inr later ↦ inr later
]

above_first : (x : ℕ) (xs : List ℕ) (t : ℕ) → AreRising (x ∷ xs) → Contains xs t → x < t
above_first x xs t rises (k, below, is) = subst (λ (n : ℕ). x < n) is (rises 0 (suc k) t (omega arith) (omega (arith, below)))

rest_rises : (x : ℕ) (xs : List ℕ) → AreRising (x ∷ xs) → AreRising xs
rest_rises x xs rises = λ i j d less within. rises (suc i) (suc j) d (omega (arith, less)) (omega (arith, within))

-- two rising lists with the same numbers are one
pub same_rising : (xs ys : List ℕ) → AreRising xs → AreRising ys → ((t : ℕ) → Contains xs t → Contains ys t) → ((t : ℕ) → Contains ys t → Contains xs t) → xs ≡ ys
same_rising [] [] rx ry there back = refl
same_rising [] (y ∷ ys) rx ry there back = absurd (nowhere y (back y (Contains-get_or (y ∷ ys) 0 y (omega arith))))
same_rising (x ∷ xs) [] rx ry there back = absurd (nowhere x (there x (Contains-get_or (x ∷ xs) 0 x (omega arith))))
same_rising (x ∷ xs) (y ∷ ys) rx ry there back =
    let first : x ≡ y = elim (first_or_later y ys x (there x (Contains-get_or (x ∷ xs) 0 x (omega arith)))) [
      | inl same ↦ sym same
      | inr later ↦ elim (first_or_later x xs y (back y (Contains-get_or (y ∷ ys) 0 y (omega arith)))) [
        | inl same ↦ same
        | inr earlier ↦ absurd (omega (arith, above_first y ys x ry later, above_first x xs y rx earlier))
      ]
    ] in
    let rest : xs ≡ ys =
    same_rising xs ys (rest_rises x xs rx) (rest_rises y ys ry)
    (λ t h. elim (first_or_later y ys t (there t (Contains-append_right (x ∷ []) xs t h))) [
      | inl same ↦ absurd (omega (arith, same, first, above_first x xs t rx h))
      | inr later ↦ later
    ])
    (λ t h. elim (first_or_later x xs t (back t (Contains-append_right (y ∷ []) ys t h))) [
      | inl same ↦ absurd (omega (arith, same, first, above_first y ys t ry h))
      | inr later ↦ later
    ]) in
    λ i. first i ∷ rest i

pub rises_range : (n : ℕ) → IsStrictlyIncreasing (range_with_len 0 n)
rises_range n k below =
    let next : k + 1 < n = subst (λ (m : ℕ). k + 1 < m) (length-range_with_len 0 n) below in
    let here : k < n = omega arith in
    rw (get_or-range_with_len 0 n k 0 here, get_or-range_with_len 0 n (k + 1) 0 next) (omega arith)

kept : (p : ℕ → Bool) (xs : List ℕ) (x : ℕ) → p x ≡ true → Contains xs x → Contains (filter p xs) x
kept p [] x h there = there
kept p (y ∷ ys) x h there = by (p y) refl (kept p ys x h) (Contains-append_cases (y ∷ []) ys x there)
  where
    by : (b : Bool) → p y ≡ b → (Contains ys x → Contains (filter p ys) x) → Contains (y ∷ []) x ⊎ Contains ys x → Contains (cond b (y ∷ filter p ys) (filter p ys)) x
    by true e more (inl first) = Contains-append_left (y ∷ []) (filter p ys) x first
    by true e more (inr later) = Contains-append_right (y ∷ []) (filter p ys) x (more later)
    by false e more (inl first) = elim (Contains-push_cases [] y x first) [ inl none ↦ absurd (nowhere x none) | inr same ↦ absurd (cc (sym e ∙ ap p same ∙ h)) ]
    by false e more (inr later) = more later

in_range : (n k : ℕ) → k < n → Contains (range_with_len 0 n) k
in_range n k below =
    subst (λ (x : ℕ). Contains (range_with_len 0 n) x) (get_or-range_with_len 0 n k 0 below ∙ omega arith) (Contains-get_or (range_with_len 0 n) k 0 (rw length-range_with_len below))

-- numbers below an end, each once, that are those that pass a test: sorted, they are the range where it passes
pub sorted_passing : (p : ℕ → Bool) (end : ℕ) (list sorted : List ℕ) → AllPairs (λ a b. a ≢ b) list → IsPermutation list sorted → IsSorted nat_cmp sorted
    → ((t : ℕ) → Contains sorted t → p t ≡ true) → ((t : ℕ) → p t ≡ true → Contains sorted t) → ((t : ℕ) → p t ≡ true → t < end) → sorted ≡ filter p (range_with_len 0 end)
sorted_passing p end list sorted once permuted rises only all below =
    same_rising sorted (filter p (range_with_len 0 end)) (AllPairs-from_increasing sorted strict)
    (AllPairs-from_increasing (filter p (range_with_len 0 end)) (IsStrictlyIncreasing-filter p (range_with_len 0 end) (rises_range end)))
    (λ t h. kept p (range_with_len 0 end) t (only t h) (in_range end t (below t (only t h))))
    (λ t h. all t (All-contains (λ x. p x ≡ true) (filter p (range_with_len 0 end)) t (filter_passes p (range_with_len 0 end)) h))
  where
    flips : (a b : ℕ) → nat_eq a b ≡ nat_eq b a
    flips a b = grind arith

    distinct : IsDistinct nat_eq sorted
    distinct = IsDistinct-IsPermutation nat_eq flips list sorted permuted (distinct_from_pairs nat_eq list (λ i j d less within. ne_eqb (get_or list i d) (get_or list j d) (once i j d less within)))

    strict : IsStrictlyIncreasing sorted
    strict = IsStrictlyIncreasing-from_distinct sorted (IsNonDecreasingBy-from_sort (λ (x : ℕ). x) sorted rises) distinct
