-- What holds of each element of a list and its place.
use Rattle.std.specs.Prelude.{◌≡◌, ℕ, List, Some, slice_get}

abbrev pub EachAt : {X : Type 0} → (ℕ → X → Type 0) → List X → Type 0
EachAt {X} P xs = (place : ℕ) (x : X) → slice_get xs place ≡ Some x → P place x
