-- What the kernels answer, place by place: a column is a list of numbers, and a place is an index into it.
use Rattle.std.specs.Prelude.{◌≡◌, ℕ, ◌<◌, ◌≤◌, ◌^◌, ◌↔◌, ℤ, pos, neg_ℤ, Bool, false, IsTrue, ◌+ℤ◌, ◌-ℤ◌, ◌*ℤ◌, ◌≤ℤ◌, ◌<ℤ◌, List, length, slice_index_or}
use Rattle.std.specs.Int.Signed.{le_z}

-- the number at a place
abbrev pub entry : List ℤ → ℕ → ℤ
entry column k = slice_index_or column k (pos 0)

-- r is the least place whose entry is at least t, or the length where there is none
pub record IsFirstAtLeast (column : List ℤ) (t : ℤ) (r : ℕ) : Type 0 where
  pub within : r ≤ length column
  pub before : (k : ℕ) → k < r → entry column k <ℤ t
  pub here : r < length column → t ≤ℤ entry column r

-- some place has a time of at most t and a penalty of at most p
abbrev pub SomeCovers : List ℤ → List ℤ → ℤ → ℤ → Type 0
SomeCovers times pens t p = (k : ℕ) × (k < length times) × (entry times k ≤ℤ t) × (entry pens k ≤ℤ p)

-- a coordinate: the range keeps differences and their tests exact
abbrev pub IsCoordinate : ℤ → Type 0
IsCoordinate z = (neg_ℤ (pos (2 ^ 40)) ≤ℤ z) × (z ≤ℤ pos (2 ^ 40))

-- how far a point may be; its square fits 64 bits many times over
abbrev pub IsReach : ℤ → Type 0
IsReach r = (pos 0 ≤ℤ r) × (r ≤ℤ pos 5000000)

abbrev pub square : ℤ → ℤ
square d = d *ℤ d

-- the point with the differences dx and dy is at most `reach` away in the plane, by Pythagoras' theorem
abbrev pub is_in_reach : ℤ → ℤ → ℤ → Bool
is_in_reach dx dy reach = le_z (square dx +ℤ square dy) (square reach)

-- the point at a place is at most `reach` from the point (x, y)
abbrev pub is_within : List ℤ → List ℤ → ℤ → ℤ → ℤ → ℕ → Bool
is_within xs ys x y reach k = is_in_reach (entry xs k -ℤ x) (entry ys k -ℤ y) reach

-- the marks of places from low up to, and without, high say which of them are within reach
abbrev pub AreMarked : List ℤ → List ℤ → ℤ → ℤ → ℤ → ℕ → ℕ → List Bool → Type 0
AreMarked xs ys x y reach low high marks = (k : ℕ) → low ≤ k → k < high → slice_index_or marks k false ≡ is_within xs ys x y reach k

-- each point has its mark
pub record IsEachMarked (xs ys : List ℤ) (x y reach : ℤ) (marks : List Bool) : Type 0 where
  pub each : (k : ℕ) → k < length xs → (IsTrue (slice_index_or marks k false) ↔ (square (entry xs k -ℤ x) +ℤ square (entry ys k -ℤ y)) ≤ℤ square reach)
