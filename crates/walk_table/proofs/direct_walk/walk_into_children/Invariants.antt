use Rattle.std.proofs.Common.{take}
use Rattle.otp_base.specs.Adds.{FromSome}
use Rattle.walk_table.specs.Direct.{IsLeast, IsWalkIntoChild}
use Rattle.walk_table.proofs.direct_walk.walk_into_children.Given as goal

abbrev pub invariant-loop-stop : goal.invariant-loop-stop
invariant-loop-stop l = IsLeast (FromSome (IsWalkIntoChild l.profile l.p l.station) (take l.stop-index l.stops)) l.least
