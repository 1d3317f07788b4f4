use Rattle.walk_table.specs.Reaches.{IsChildPoint}
use Rattle.walk_table.specs.Walks.{IsWalkTo}
use Rattle.walk_table.proofs.DirectLemmas.{through_only, least_only}
use Rattle.walk_table.proofs.direct_walk.walk_into_child.Goals as goal

pub returns : goal.returns
returns c =
    through_only (IsChildPoint c.args.station c.args.stop.now) (IsWalkTo c.args.profile.now c.args.p.now) c.in_ok-q.q c.walk_between.result c.in_ok-q.ensures
    (least_only (IsWalkTo c.args.profile.now c.args.p.now c.in_ok-q.q) c.walk_between.result c.walk_between.ensures)
