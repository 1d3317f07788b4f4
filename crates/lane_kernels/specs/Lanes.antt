-- What the lane-wise bodies say of one group of places.
use Rattle.std.specs.Prelude.{◌≡◌, ℕ, ◌<◌, ◌≤◌, ℤ, pos, negsuc, Bool, true, false, cond, ◌&&◌, List, map, int_lt}
use Rattle.std.specs.Int.Signed.{le_z}
use Rattle.std.specs.List.{range_with_len}
use Rattle.lane_kernels.specs.Columns.{entry}

-- p holds of a place from low up to, and without, high
abbrev pub SomeWithin : (ℕ → Bool) → ℕ → ℕ → Type 0
SomeWithin p low high = (k : ℕ) × (low ≤ k) × (k < high) × (p k ≡ true)

-- p holds of no such place
abbrev pub NoneWithin : (ℕ → Bool) → ℕ → ℕ → Type 0
NoneWithin p low high = (k : ℕ) → low ≤ k → k < high → p k ≡ false

-- a vector of n lanes whose lane i is f i
abbrev pub lanes : {X : Type 0} → (ℕ → X) → ℕ → List X
lanes f n = map f (range_with_len 0 n)

-- a mask's lane: all ones, which is -1, or 0
abbrev pub flag : Bool → ℤ
flag b = cond b (negsuc 0) (pos 0)

-- a mask of n lanes whose lane i is set where p holds of i
abbrev pub marks : (ℕ → Bool) → ℕ → List ℤ
marks p = lanes (λ i. flag (p i))

-- the entry at a place is above a limit
abbrev pub is_above : List ℤ → ℤ → ℕ → Bool
is_above column limit k = int_lt limit (entry column k)

-- the entries at a place are not above their limits
abbrev pub covers : List ℤ → List ℤ → ℤ → ℤ → ℕ → Bool
covers times pens t p k = le_z (entry times k) t && le_z (entry pens k) p

-- the entry at a place is above one limit and at most another
abbrev pub is_between : List ℤ → ℤ → ℤ → ℕ → Bool
is_between column low high k = int_lt low (entry column k) && le_z (entry column k) high
