use Rattle.std.proofs.Common.{arith}
use Rattle.otp_base.proofs.AddsLemmas.{adds_more_at, adds_some_all}
use Rattle.raptor_rounds.specs.Moments.{IsMomentFrom}
use Rattle.raptor_rounds.proofs.MomentLemmas.{moments_are}
use Rattle.raptor_rounds.proofs.moments.moments_of.Goals as goal

pub loop-reach-preserved : goal.loop-reach-preserved
loop-reach-preserved g c =
    adds_more_at (IsMomentFrom (g.T.Timetable.blocks c.args.timetable.now) c.args.request.now) c.args.starts.now c.loop-reach.reach-index _ _ _ _ (omega arith) c.loop-reach.invariant c.in_ok-put_reach.ensures

pub returns : goal.returns
returns g c =
    let t = c.args.timetable.now in
    let blocks = g.T.Timetable.blocks t in
    let whole = adds_some_all (IsMomentFrom blocks c.args.request.now) c.args.starts.now c.loop-reach.reach-index _ _ (omega arith) c.loop-reach.invariant in
    moments_are (g.T.Timetable.runs t) blocks (g.met.T.Timetable.stands t) c.args.request.now c.args.starts.now _ _ (rw c.new-moments.ensures.items at whole) c.put_in_order.ensures.same c.put_in_order.ensures.rise
