-- What a call of a port gives.
use Rattle.std.specs.Prelude.{◌≡◌, ℕ, ◌+◌, Option, Some, None}
use Rattle.otp_base.specs.declared.port.Accepted.{Accepted}
use Rattle.otp_base.specs.declared.port.Accepted.TheVariants as accepted

-- how many links are left before and after a call
abbrev pub TakesLink : {I O : Type 0} → ℕ → ℕ → Accepted I O → Type 0
TakesLink before now (accepted.Link input output) = before ≡ now + 1
TakesLink before now accepted.Closed = (before ≡ 0) × (now ≡ 0)
TakesLink before now accepted.Failed = now ≡ before

-- the same of a port that may tell how many it has left
abbrev pub Accepts : {I O : Type 0} → Option ℕ → Option ℕ → Accepted I O → Type 0
Accepts None None given = Unit {0}
Accepts None (Some now) given = ⊥
Accepts (Some before) None given = ⊥
Accepts (Some before) (Some now) given = TakesLink before now given
