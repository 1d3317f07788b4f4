-- Bags of labels: what they cover, and what comes of a label that is put in (Pareto order of times and penalties).
use Rattle.std.specs.Prelude.{◌≡◌, ◌⊎◌, ℤ, ◌≤ℤ◌, Bool, not, ◌&&◌, int_le, List, [], ◌∷◌, ◌++◌}
use Rattle.std.specs.Bool.{MatchBool}
use Rattle.std.specs.List.{AllPairs, Any, Contains, filter}
use Rattle.label_bags.specs.declared.label.Label.{Label}

-- the label comes no later than the time, at no greater a penalty
abbrev pub Covers : Label → ℤ → ℤ → Type 0
Covers label time penalty = (label.time ≤ℤ time) × (label.penalty ≤ℤ penalty)

-- some label does
abbrev pub IsCovered : List Label → ℤ → ℤ → Type 0
IsCovered labels time penalty = Any (λ (label : Label). Covers label time penalty) labels

-- neither label covers the other
pub record IsApart (a b : Label) : Type 0 where
  pub front : Covers a b.time b.penalty → ⊥
  pub back : Covers b a.time a.penalty → ⊥

-- no label covers another; so each stands there once
abbrev pub AreApart : List Label → Type 0
AreApart labels = AllPairs IsApart labels

-- whether another label stays in a bag that this one comes into: this one doesn't cover it
abbrev pub stays_beside : Label → Label → Bool
stays_beside label other = not (int_le label.time other.time && int_le label.penalty other.penalty)

-- the label was not covered, and stands behind those that it doesn't cover
pub record IsAdded (old : List Label) (label : Label) (new : List Label) : Type 0 where
  pub fresh : IsCovered old label.time label.penalty → ⊥
  pub new_is : new ≡ filter (stays_beside label) old ++ label ∷ []

-- what an insertion answers, and the bag that it leaves: the label came in, or it was covered and nothing changed
abbrev pub IsInserted : List Label → Label → Bool → List Label → Type 0
IsInserted old label came new = MatchBool came (IsAdded old label new) (IsCovered old label.time label.penalty × (new ≡ old))

-- the label is covered and all that was covered still is; a label that is gone is one that it covers, and none but it is new
pub record IsUpheld (old : List Label) (label : Label) (new : List Label) : Type 0 where
  pub covered : IsCovered new label.time label.penalty
  pub still : (time penalty : ℤ) → IsCovered old time penalty → IsCovered new time penalty
  pub kept : (x : Label) → Contains old x → Contains new x ⊎ Covers label x.time x.penalty
  pub only : (x : Label) → Contains new x → Contains old x ⊎ (x ≡ label)
