-- Names in the order of their first sight.
use Rattle.std.specs.Prelude.{ℕ, ◌+◌, List, [], ◌∷◌, ◌++◌, Bool, not, if◌then◌else◌}
use Rattle.std.specs.List.{filter, list_any}
use Rattle.std.specs.Str.{bytes_eq}

-- whether the names have this one
abbrev pub has_name : List (List ℕ) → List ℕ → Bool
has_name names name = list_any (bytes_eq name) names

abbrev pub is_other : List ℕ → List ℕ → Bool
is_other name other = not (bytes_eq name other)

-- each name once, in the order in which they first stand in the list
unfoldable pub first_sights : List (List ℕ) → List (List ℕ)
first_sights [] = []
first_sights (name ∷ names) = name ∷ filter (is_other name) (first_sights names)

-- the place of a name among names: how many stand before it
unfoldable pub place_of : List (List ℕ) → List ℕ → ℕ
place_of [] name = 0
place_of (other ∷ names) name = if bytes_eq name other then 0 else place_of names name + 1

-- the names with one more, if they don't have it
abbrev pub noted : List (List ℕ) → List ℕ → List (List ℕ)
noted names name = if has_name names name then names else names ++ name ∷ []
