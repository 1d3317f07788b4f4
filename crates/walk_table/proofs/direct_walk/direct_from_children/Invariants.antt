use Rattle.std.proofs.Common.{take}
use Rattle.otp_base.specs.Adds.{FromSome}
use Rattle.walk_table.specs.Direct.{IsDirectFromChild, IsLeast}
use Rattle.walk_table.proofs.direct_walk.direct_from_children.Given as goal

abbrev pub invariant-loop-stop : goal.invariant-loop-stop
invariant-loop-stop l = IsLeast (FromSome (IsDirectFromChild l.edges l.station l.to) (take l.stop-index l.stops)) l.least
