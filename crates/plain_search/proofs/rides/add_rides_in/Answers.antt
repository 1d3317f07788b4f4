use Rattle.std.proofs.Common.{arith}
use Rattle.plain_search.specs.Rides.{IsRideFrom}
use Rattle.otp_base.proofs.AddsLemmas.{adds_more_below}
use Rattle.plain_search.proofs.RideLemmas.{adds_in_all}
use Rattle.plain_search.proofs.rides.add_rides_in.Goals as goal

pub loop-from-preserved : goal.loop-from-preserved
loop-from-preserved c = adds_more_below (IsRideFrom c.args.run.now) c.loop-from.from _ _ _ c.loop-from.invariant c.in_ok-add_rides_from.ensures

pub returns : goal.returns
returns c = adds_in_all c.args.run.now c.loop-from.from _ _ (omega arith) c.loop-from.invariant
