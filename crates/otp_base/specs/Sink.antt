-- What a write to a sink does.
use Rattle.std.specs.Prelude.{◌≡◌, ℕ, ◌≤◌, Option, Some, None, List, ◌++◌, length, take}
use Rattle.otp_base.specs.declared.sink.Put.{Put}
use Rattle.otp_base.specs.declared.sink.Put.TheVariants as put

-- these bytes stand at the end of what a sink held, where it tells
abbrev pub AppendsKnown : Option (List ℕ) → Option (List ℕ) → List ℕ → Type 0
AppendsKnown None None added = Unit {0}
AppendsKnown None (Some now) added = ⊥
AppendsKnown (Some before) None added = ⊥
AppendsKnown (Some before) (Some now) added = now ≡ before ++ added

-- a front of these bytes stands there
abbrev pub AppendsFront : Option (List ℕ) → Option (List ℕ) → List ℕ → Type 0
AppendsFront before now bytes = (n : ℕ) × (n ≤ length bytes) × AppendsKnown before now (take n bytes)

-- a write took at least one byte, and no more than there were
abbrev pub WithinPiece : ℕ → Put → Type 0
WithinPiece size (put.Took n) = (1 ≤ n) × (n ≤ size)
WithinPiece size put.Failed = Unit {0}

-- what a write leaves in the sink
abbrev pub Writes : Option (List ℕ) → Option (List ℕ) → List ℕ → Put → Type 0
Writes before now piece (put.Took n) = AppendsKnown before now (take n piece)
Writes before now piece put.Failed = now ≡ before
