-- The values under a name.
use Rattle.std.proofs.Common.{◌≡◌, ℕ, true, false, List, [], ◌∷◌, Some, Ok, Err, inl, inr, refl}
use Rattle.std.specs.List.{list_any}
use Rattle.std.proofs.lemmas.Bool.{cases_Bool}
use Rattle.query_form.specs.declared.pairs.Pair.{Pair}
use Rattle.query_form.specs.declared.fault.QueryFault.TheVariants as fault
use Rattle.query_form.specs.Pairs.{is_named, single, values_named}

-- a value that stands alone
pub alone : (value name : List ℕ) (others : List Pair) → list_any (is_named name) others ≡ false → single (value ∷ values_named name others) ≡ Ok (Some value)
alone value name [] h = refl
alone value name (pair ∷ others) h =
    elim (cases_Bool (is_named name pair)) [
      | inl e ↦ cc (rw e at h)
      | inr e ↦ rw e (alone value name others (rw e at h))
    ]

-- a value beside another
pub twice : (value name : List ℕ) (others : List Pair) → list_any (is_named name) others ≡ true → single (value ∷ values_named name others) ≡ Err fault.Twice
twice value name [] h = cc h
twice value name (pair ∷ others) h =
    elim (cases_Bool (is_named name pair)) [
      | inl e ↦ rw e refl
      | inr e ↦ rw e (twice value name others (rw e at h))
    ]
