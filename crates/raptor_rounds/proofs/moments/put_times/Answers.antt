use Rattle.std.proofs.Common.{arith}
use Rattle.otp_base.proofs.AddsLemmas.{adds_more_at, adds_option, adds_some_all}
use Rattle.raptor_rounds.specs.Moments.{IsMomentBy}
use Rattle.raptor_rounds.proofs.moments.put_times.Goals as goal

pub loop-time-preserved : goal.loop-time-preserved
loop-time-preserved c =
    adds_more_at (IsMomentBy c.args.request.now c.args.reach.now) c.args.times.now c.loop-time.time-index _ _ _ _ (omega arith) c.loop-time.invariant (adds_option _ _ _ _ c.in_ok-push_some.ensures c.moment_by.ensures)

pub returns : goal.returns
returns c = adds_some_all (IsMomentBy c.args.request.now c.args.reach.now) c.args.times.now c.loop-time.time-index _ _ (omega arith) c.loop-time.invariant
