use Rattle.std.proofs.Common.{take, []}
use Rattle.otp_base.specs.Adds.{Adds, FromSome}
use Rattle.walk_table.specs.Reaches.{IsChildPoint}
use Rattle.walk_table.proofs.reach.child_points.Given as goal

abbrev pub invariant-loop-stop : goal.invariant-loop-stop
invariant-loop-stop l = Adds (FromSome (IsChildPoint l.station) (take l.stop-index l.stops)) [] l.points.items
