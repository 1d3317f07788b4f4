-- A list of which the first elements were replaced, one more of them.
use Rattle.std.proofs.Common.{◌≡◌, ℕ, ◌+◌, ◌<◌, suc, zero, List, [], ◌∷◌, ◌++◌, map, take, drop, set, length, get_or, refl, ap, ◌∙◌, add-one, arith}

module _ {X : Type 0} (f : X → X) where
  pub read_next : (xs : List X) (i : ℕ) (d : X) → i < length xs → get_or (map f (take i xs) ++ drop i xs) i d ≡ get_or xs i d
  read_next [] i d h = absurd (omega arith)
  read_next (x ∷ xs) zero d h = refl
  read_next (x ∷ xs) (suc i) d h = read_next xs i d (omega arith)

  set_next : (xs : List X) (i : ℕ) (d : X) → i < length xs → set (map f (take i xs) ++ drop i xs) i (f (get_or xs i d)) ≡ map f (take (suc i) xs) ++ drop (suc i) xs
  set_next [] i d h = absurd (omega arith)
  set_next (x ∷ xs) zero d h = refl
  set_next (x ∷ xs) (suc i) d h = ap (λ z. f x ∷ z) (set_next xs i d (omega arith))

  pub replaced_more : (xs now : List X) (i : ℕ) (x y : X) → i < length xs → now ≡ map f (take i xs) ++ drop i xs → y ≡ f (get_or now i x)
      → set now i y ≡ map f (take (i + 1) xs) ++ drop (i + 1) xs
  replaced_more xs now i x y h so made =
      let read : get_or now i x ≡ get_or xs i x = ap (λ z. get_or z i x) so ∙ read_next xs i x h in
      ap (λ z. set z i y) so ∙ ap (λ z. set (map f (take i xs) ++ drop i xs) i z) (made ∙ ap f read) ∙ rw add-one (set_next xs i x h)

  replaced_length : (xs : List X) (i : ℕ) → length (map f (take i xs) ++ drop i xs) ≡ length xs
  replaced_length [] zero = refl
  replaced_length [] (suc i) = refl
  replaced_length (x ∷ xs) zero = refl
  replaced_length (x ∷ xs) (suc i) = ap suc (replaced_length xs i)

  pub replaced_within : (xs now : List X) (i : ℕ) → now ≡ map f (take i xs) ++ drop i xs → length now ≡ length xs
  replaced_within xs now i so = ap length so ∙ replaced_length xs i
