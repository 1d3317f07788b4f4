use Rattle.std.proofs.Common.{arith}
use Rattle.plain_search.specs.Rides.{IsRideIn}
use Rattle.otp_base.proofs.AddsLemmas.{adds_more_some}
use Rattle.plain_search.proofs.RideLemmas.{rides_of_all}
use Rattle.plain_search.proofs.rides.rides_of.Goals as goal

pub loop-run-preserved : goal.loop-run-preserved
loop-run-preserved c = adds_more_some IsRideIn c.args.runs.now c.loop-run.run-index _ _ _ _ (omega arith) c.run-item.is c.loop-run.invariant c.in_ok-add_rides_in.ensures

pub returns : goal.returns
returns c = rides_of_all c.args.runs.now c.loop-run.run-index _ (omega arith) c.loop-run.invariant
