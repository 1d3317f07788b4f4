-- Facts of each item and its place, along a list that grows.
use Rattle.std.proofs.Common.{◌≡◌, ℕ, ◌<◌, List, [], ◌∷◌, ◌++◌, length, Some, get_or, sym, subst, ◌∙◌, ap, inl, inr, arith}
use Rattle.std.proofs.lemmas.Bool.{cases_lt}
use Rattle.std.proofs.lemmas.List.{get_or_append_left, get_or_push, length_push}
use Rattle.std.proofs.lemmas.Option.{get_or_from_slice_get, slice_get-get_or, slice_get_within}
use Rattle.otp_base.specs.EachAt.{EachAt}

module _ {X : Type 0} where
  -- nothing stands in an empty list
  pub each_none : (P : ℕ → X → Type 0) → EachAt P []
  each_none P place x h = absurd (omega (arith, slice_get_within [] place x h))

  pub each_push : (P : ℕ → X → Type 0) (xs : List X) (y : X) → EachAt P xs → P (length xs) y → EachAt P (xs ++ y ∷ [])
  each_push P xs y each new place x h =
      let inside = slice_get_within (xs ++ y ∷ []) place x h in
      let at : get_or (xs ++ y ∷ []) place x ≡ x = get_or_from_slice_get (xs ++ y ∷ []) place x x h in
      elim (cases_lt place (length xs)) [
        | inl less ↦
            let same : get_or xs place x ≡ x = sym (get_or_append_left xs (y ∷ []) x place less) ∙ at in
            each place x (slice_get-get_or xs place x less ∙ ap (λ (z : X). Some z) same)
        | inr more ↦
            let last : length xs ≡ place = omega (arith, more, inside, length_push xs y) in
            let same : y ≡ x = sym (get_or_push xs y x place last) ∙ at in
            subst (λ (z : X). P place z) same (subst (λ (n : ℕ). P n y) last new)
      ]

  -- the item that an index reads
  pub each_read : (P : ℕ → X → Type 0) (xs : List X) (place : ℕ) (d : X) → EachAt P xs → place < length xs → P place (get_or xs place d)
  each_read P xs place d each less = each place (get_or xs place d) (slice_get-get_or xs place d less)

  pub each_weaker : (P Q : ℕ → X → Type 0) (xs : List X) → ((place : ℕ) (x : X) → P place x → Q place x) → EachAt P xs → EachAt Q xs
  each_weaker P Q xs weaker each place x h = weaker place x (each place x h)
