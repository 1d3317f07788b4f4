use Rattle.pin_ring.specs.Kept.{AreRising, KeptView}
use Rattle.std.proofs.Common.{subst}
use Rattle.pin_ring.proofs.pins.Pins.rise.Goals as goal

pub returns : goal.returns
returns c = subst (λ (seen : KeptView). AreRising seen.kept) c.self.view_is c.self.invariant.rising
