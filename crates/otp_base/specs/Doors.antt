-- What a door gives out and takes back.
use Rattle.std.specs.Prelude.{◌≡◌, ℕ, ◌+◌, ◌<◌, ◌≤◌, min, Option, Some, None, List, [], ◌∷◌, All, Any}
use Rattle.otp_base.specs.Faults.{Rose}

module _ {P : Type 0} (links : P → Option ℕ) where
  -- each port tells how many links it has left, and together they are so many
  abbrev pub TellTogether : List P → ℕ → Type 0
  TellTogether [] total = total ≡ 0
  TellTogether (port ∷ ports) total = (first : ℕ) × (rest : ℕ) × (links port ≡ Some first) × TellTogether ports rest × (total ≡ first + rest)

  -- the ports have as many of the door's links as were asked for and are there, and the door has the others
  abbrev pub GivesOut : ℕ → Option ℕ → Option ℕ → List P → Type 0
  GivesOut most None None ports = All (λ port. links port ≡ None) ports
  GivesOut most None (Some now) ports = ⊥
  GivesOut most (Some before) None ports = ⊥
  GivesOut most (Some before) (Some now) ports = TellTogether ports (min before most) × (before ≡ now + min before most)

  -- the door has what the ports had left
  abbrev pub TakesBack : Option ℕ → Option ℕ → List P → Type 0
  TakesBack None None ports = Unit {0}
  TakesBack None (Some now) ports = ⊥
  TakesBack (Some before) None ports = ⊥
  TakesBack (Some before) (Some now) ports = (total : ℕ) → TellTogether ports total → now ≡ before + total

module _ {P : Type 0} (faults : P → ℕ) where
  -- no port has counted a fault
  abbrev pub AreFaultless : List P → Type 0
  AreFaultless ports = All (λ port. faults port ≡ 0) ports

  -- the count of faults rises where some port has counted one, else it stays
  abbrev pub CountsFaults : ℕ → ℕ → List P → Type 0
  CountsFaults before now ports = (before ≤ now) × (AreFaultless ports → now ≡ before) × (Any (λ port. 0 < faults port) ports → Rose before now)
