use Rattle.raptor_rounds.proofs.BoundLemmas.{bounds_stay}
use Rattle.std.proofs.Common.{arith}
use Rattle.raptor_rounds.specs.Scans.{IsStartedBy, StartsBy}
use Rattle.raptor_rounds.proofs.SettleLemmas.{settles_each}
use Rattle.raptor_rounds.proofs.start.start_all.Goals as goal

pub loop-reach-preserved : goal.loop-reach-preserved
loop-reach-preserved g c =
    let t = c.args.timetable.now in
    let r = c.args.request.now in
    let d = c.args.departure.now in
    settles_each r d (StartsBy (g.T.Timetable.runs t) r d) (IsStartedBy (g.T.Timetable.blocks t) r d) c.args.starts.now c.loop-reach.reach-index _ _ _ _ (omega arith) c.loop-reach.invariant c.in_ok-start_by.ensures

pub start_by-requires-clause-bounds : goal.start_by-requires-clause-bounds
start_by-requires-clause-bounds g c = bounds_stay (g.T.Timetable.blocks c.args.timetable.now) c.args.request.now c.args.state.now c.loop-reach.state c.loop-reach.invariant.aim_is c.requires.bounds
