-- Lists that a loop goes along.
use Rattle.std.proofs.Common.{◌≡◌, ℕ, ◌+◌, ◌<◌, List, ◌∷◌, length, get_or, drop, sym, ap, ◌∙◌, add-one}
use Rattle.std.proofs.Math.Seq.{drop-cons}

module _ {X : Type 0} where
  -- what is left from a place on is what stands there, and what is left behind it
  pub drop_at : (xs : List X) (i : ℕ) (any : X) → i < length xs → drop i xs ≡ get_or xs i any ∷ drop (i + 1) xs
  drop_at xs i any less = rw add-one (drop-cons xs i any less)

  pub drop_here : (xs : List X) (i : ℕ) (x : X) → i < length xs → x ≡ get_or xs i x → drop i xs ≡ x ∷ drop (i + 1) xs
  drop_here xs i x less is = drop_at xs i x less ∙ ap (λ (y : X). y ∷ drop (i + 1) xs) (sym is)
