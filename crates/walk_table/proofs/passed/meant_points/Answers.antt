use Rattle.std.proofs.Common.{arith, Option, ℕ, subst}
use Rattle.walk_table.specs.Passed.{HasMeantPoint}
use Rattle.walk_table.proofs.PassedLemmas.{meant_past}
use Rattle.walk_table.proofs.passed.meant_points.Goals as goal

pub returns-in-Some-get : goal.returns-in-Some-get
returns-in-Some-get c = rw c.in-Some.is c.points_meant_by.ensures

pub returns-in-None : goal.returns-in-None
returns-in-None c p = (
  (λ k. absurd (omega (arith, k.1, c.new-in-None.ensures.len))),
  (λ h. absurd (meant_past c.args.stops.now c.in-Some.named p c.in-None.ensures.lookup.3 (subst (λ (side : Option ℕ). HasMeantPoint c.args.stops.now side p) c.in-Some.is h))),
)
