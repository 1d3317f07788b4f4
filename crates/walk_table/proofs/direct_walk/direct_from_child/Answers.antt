use Rattle.std.proofs.Common.{ℕ}
use Rattle.otp_model.specs.declared.timetable.Point.{Point}
use Rattle.walk_table.specs.Direct.{IsWalkInto}
use Rattle.walk_table.specs.Reaches.{IsChildPoint}
use Rattle.walk_table.proofs.DirectLemmas.{through_only}
use Rattle.walk_table.proofs.direct_walk.direct_from_child.Goals as goal

pub returns : goal.returns
returns c = through_only (IsChildPoint c.args.station c.args.stop.now) (λ (p : Point) (n : ℕ). IsWalkInto c.args.edges.now p c.args.to.now n) c.in_ok-p.p c.walk_into.result c.in_ok-p.ensures c.walk_into.ensures
