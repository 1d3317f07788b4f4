use Rattle.raptor_rounds.proofs.BoundLemmas.{bounds_stay}
use Rattle.std.proofs.Common.{arith}
use Rattle.raptor_rounds.specs.Scans.{IsWalkedBy, WalksBy}
use Rattle.raptor_rounds.proofs.SettleLemmas.{settles_each}
use Rattle.raptor_rounds.proofs.walk.walk_edges.Goals as goal

pub loop-edge-preserved : goal.loop-edge-preserved
loop-edge-preserved g c =
    let t = c.args.timetable.now in
    let r = c.args.request.now in
    let n = c.args.node.now in
    record {
      settles = settles_each r n.departure (WalksBy (g.T.Timetable.runs t) r c.args.number n) (IsWalkedBy (g.T.Timetable.blocks t) r c.args.number n) c.args.row.now c.loop-edge.edge-index _ _ _ _ (omega arith) c.loop-edge.invariant.settles
          c.in_ok-walk_by.ensures.settles;
      marks = c.in_ok-walk_by.ensures.marks;
    }

pub walk_by-requires-clause-bounds : goal.walk_by-requires-clause-bounds
walk_by-requires-clause-bounds g c = bounds_stay (g.T.Timetable.blocks c.args.timetable.now) c.args.request.now c.args.state.now c.loop-edge.state c.loop-edge.invariant.settles.aim_is c.requires.bounds
