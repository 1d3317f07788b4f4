-- What a read of a source gives.
use Rattle.std.specs.Prelude.{◌≡◌, ℕ, ◌≤◌, Option, Some, None, List, [], ◌++◌, take}
use Rattle.otp_base.specs.declared.source.Got.{Got}
use Rattle.otp_base.specs.declared.source.Got.TheVariants as got

-- at least one byte, and no more than there is room for
abbrev pub WithinSlice : ℕ → Got → Type 0
WithinSlice room (got.Bytes n) = (1 ≤ n) × (n ≤ room)
WithinSlice room got.End = Unit {0}
WithinSlice room got.Failed = Unit {0}

-- what a read takes off the bytes that are left
abbrev pub Takes : List ℕ → List ℕ → List ℕ → Got → Type 0
Takes before now slice (got.Bytes n) = before ≡ take n slice ++ now
Takes before now slice got.End = (before ≡ []) × (now ≡ [])
Takes before now slice got.Failed = now ≡ before

-- the same of a source that may tell what it has left
abbrev pub Reads : Option (List ℕ) → Option (List ℕ) → List ℕ → Got → Type 0
Reads None None slice given = Unit {0}
Reads None (Some now) slice given = ⊥
Reads (Some before) None slice given = ⊥
Reads (Some before) (Some now) slice given = Takes before now slice given
