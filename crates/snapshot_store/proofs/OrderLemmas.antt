-- Blocks in another order stand for the same runs.
use Rattle.std.proofs.Common.{◌≡◌, ℕ, suc, ◌+◌, ◌-◌, ◌<◌, List, [], ◌∷◌, ◌++◌, length, take, drop, get_or, set, sym, ap, subst, ◌∙◌, arith, inl, inr, map}
use Rattle.std.specs.List.{flat_map, swap}
use Rattle.std.specs.List.Sorted.{IsPermutation}
use Rattle.std.proofs.lemmas.Bool.{cases_eq, cases_lt}
use Rattle.std.proofs.lemmas.List.{append_assoc, get_or-drop, length-drop, length-take-le, set-append_right, set-get_or, set-set, set_comm, set_split}
use Rattle.std.proofs.lemmas.List.Concat.{flat_map-append}
use Rattle.std.proofs.lemmas.List.Sorted.{All-permutation, IsPermutation-append_comm, IsPermutation-append_left, IsPermutation-append_right, IsPermutation-keeps, IsPermutation-refl, IsPermutation-trans}
use Rattle.otp_model.specs.declared.timetable.Run.{Run}
use Rattle.trip_patterns.specs.FirstFit.{rows_of}
use Rattle.trip_patterns.specs.Lanes.{LaneOf}
use Rattle.trip_patterns.specs.Timetables.{IsBlock, StandsFor}
use Rattle.std.specs.List.Sorted.{IsSortedBy}
use Rattle.std.specs.Ordering.{is_lt}
use Rattle.std.proofs.lemmas.List.{get_or-map, length-map}
use Rattle.snapshot_store.specs.Order.{AreInOrder, block_lane, lane_cmp}

-- the second of three parts to the front
to_front : {Y : Type 0} (a b c : List Y) → IsPermutation (a ++ (b ++ c)) (b ++ (a ++ c))
to_front {Y} a b c =
    subst (λ (xs : List Y). IsPermutation xs (b ++ (a ++ c))) (append_assoc a b c)
    (subst (IsPermutation ((a ++ b) ++ c)) (append_assoc b a c) (IsPermutation-append_left c (a ++ b) (b ++ a) (IsPermutation-append_comm a b)))

-- two parts change places
exchanged : {Y : Type 0} (a x b y c : List Y) → IsPermutation (a ++ (x ++ (b ++ (y ++ c)))) (a ++ (y ++ (b ++ (x ++ c))))
exchanged a x b y c =
    IsPermutation-append_right a (x ++ (b ++ (y ++ c))) (y ++ (b ++ (x ++ c)))
    (IsPermutation-trans (x ++ (b ++ (y ++ c))) (x ++ (y ++ (b ++ c))) (y ++ (b ++ (x ++ c))) (IsPermutation-append_right x (b ++ (y ++ c)) (y ++ (b ++ c)) (to_front b y c))
    (IsPermutation-trans (x ++ (y ++ (b ++ c))) (y ++ (x ++ (b ++ c))) (y ++ (b ++ (x ++ c))) (to_front x y (b ++ c))
    (IsPermutation-append_right y (x ++ (b ++ c)) (b ++ (x ++ c)) (to_front x b c))))

module _ {X Y : Type 0} (f : X → List Y) where
  set_parts : (xs : List X) (n : ℕ) (x : X) → n < length xs → flat_map f (set xs n x) ≡ flat_map f (take n xs) ++ (f x ++ flat_map f (drop (suc n) xs))
  set_parts xs n x less = ap (flat_map f) (set_split xs n x less) ∙ flat_map-append f (take n xs) (x ∷ drop (suc n) xs)

  parts : (xs : List X) (n : ℕ) (d : X) → n < length xs → flat_map f xs ≡ flat_map f (take n xs) ++ (f (get_or xs n d) ++ flat_map f (drop (suc n) xs))
  parts xs n d less = ap (flat_map f) (sym (set-get_or xs n d)) ∙ set_parts xs n (get_or xs n d) less

  swapped_up : (xs : List X) (i j k : ℕ) (d : X) → j ≡ i + suc k → j < length xs → IsPermutation (flat_map f xs) (flat_map f (set (set xs i (get_or xs j d)) j (get_or xs i d)))
  swapped_up xs i j k d far less =
      let low : i < length xs = omega arith in
      let rest : List X = drop (suc i) xs in
      let within : k < length rest = omega (arith, length-drop (suc i) xs) in
      let other : get_or xs j d ≡ get_or rest k d = (let e : j ≡ suc i + k = omega arith in ap (λ (n : ℕ). get_or xs n d) e ∙ sym (get_or-drop (suc i) xs k d)) in
      let a : X = get_or xs i d in
      let b : X = get_or rest k d in
      let front : List X = take i xs in
      let gap : j - i ≡ suc k = omega arith in
      let moved : set (set xs i (get_or xs j d)) j a ≡ front ++ b ∷ set rest k a
      = ap (λ (x : X). set (set xs i x) j a) other ∙ ap (λ (ys : List X). set ys j a) (set_split xs i b low)
      ∙ set-append_right front (b ∷ rest) i j a (length-take-le i xs (omega arith)) (omega arith) ∙ ap (λ (n : ℕ). front ++ set (b ∷ rest) n a) gap in
      let after : flat_map f (set (set xs i (get_or xs j d)) j a) ≡ flat_map f front ++ (f b ++ (flat_map f (take k rest) ++ (f a ++ flat_map f (drop (suc k) rest))))
      = ap (flat_map f) moved ∙ flat_map-append f front (b ∷ set rest k a) ∙ ap (λ (ys : List Y). flat_map f front ++ (f b ++ ys)) (set_parts rest k a within) in
      let before : flat_map f xs ≡ flat_map f front ++ (f a ++ (flat_map f (take k rest) ++ (f b ++ flat_map f (drop (suc k) rest))))
      = parts xs i d low ∙ ap (λ (ys : List Y). flat_map f front ++ (f a ++ ys)) (parts rest k d within) in
      subst (λ (ys : List Y). IsPermutation ys (flat_map f (set (set xs i (get_or xs j d)) j a))) (sym before)
      (subst (IsPermutation (flat_map f front ++ (f a ++ (flat_map f (take k rest) ++ (f b ++ flat_map f (drop (suc k) rest)))))) (sym after)
      (exchanged (flat_map f front) (f a) (flat_map f (take k rest)) (f b) (flat_map f (drop (suc k) rest))))

  swapped_any : (xs : List X) (i j : ℕ) (d : X) → i < length xs → j < length xs → IsPermutation (flat_map f xs) (flat_map f (set (set xs i (get_or xs j d)) j (get_or xs i d)))
  swapped_any xs i j d low high =
      elim (cases_eq i j) [
        | inl same ↦
            subst (λ (n : ℕ). IsPermutation (flat_map f xs) (flat_map f (set (set xs i (get_or xs n d)) n (get_or xs i d)))) same
            (subst (λ (ys : List X). IsPermutation (flat_map f xs) (flat_map f ys)) (sym (set-set xs i (get_or xs i d) (get_or xs i d) ∙ set-get_or xs i d)) (IsPermutation-refl (flat_map f xs)))
        | inr other ↦ elim (cases_lt i j) [
          | inl up ↦ swapped_up xs i j (j - suc i) d (omega arith) high
          | inr down ↦
              subst (λ (ys : List X). IsPermutation (flat_map f xs) (flat_map f ys)) (set_comm xs j i (get_or xs i d) (get_or xs j d) (λ h. other (sym h)))
              (swapped_up xs j i (i - suc j) d (omega arith) low)
        ]
      ]

  swapped : (xs : List X) (i j : ℕ) → i < length xs → j < length xs → IsPermutation (flat_map f xs) (flat_map f (swap xs i j))
  swapped [] i j low high = absurd (omega arith)
  swapped (x ∷ xs) i j low high = swapped_any (x ∷ xs) i j x low high

  pub flat_permutation : (xs ys : List X) → IsPermutation xs ys → IsPermutation (flat_map f xs) (flat_map f ys)
  flat_permutation xs ys moved =
      IsPermutation-keeps xs (λ (zs : List X). IsPermutation (flat_map f xs) (flat_map f zs)) (IsPermutation-refl (flat_map f xs))
      (λ l i j low high so. IsPermutation-trans (flat_map f xs) (flat_map f l) (flat_map f (swap l i j)) so (swapped l i j low high)) ys moved

pub stands_in_order : (blocks ordered : List (List LaneOf)) (runs : List Run) → IsPermutation blocks ordered → StandsFor blocks runs → StandsFor ordered runs
stands_in_order blocks ordered runs moved stand = record {
  blocks_are = All-permutation IsBlock blocks ordered moved stand.blocks_are;
  rows = IsPermutation-trans runs (flat_map rows_of blocks) (flat_map rows_of ordered) stand.rows (flat_permutation rows_of blocks ordered moved);
}

-- what is sorted by its blocks has them in order
pub sorted_blocks : {B : Type 0} (value : B → List LaneOf) (items : List B) → IsSortedBy (λ (a b : B). is_lt (lane_cmp (block_lane (value a)) (block_lane (value b)))) items
    → AreInOrder (map value items)
sorted_blocks value [] sorted = λ k d low high. absurd (omega arith)
sorted_blocks value (x ∷ xs) sorted = λ k d low high.
    let items = x ∷ xs in
    let less : k + 1 < length items = omega (arith, high, length-map items value) in
    (λ i. is_lt (lane_cmp (block_lane (get_or-map value items (k + 1) x d less i)) (block_lane (get_or-map value items k x d (omega arith) i)))) ∙ sorted k x low less
