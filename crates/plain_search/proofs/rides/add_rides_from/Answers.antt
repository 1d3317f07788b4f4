use Rattle.std.proofs.Common.{arith, ℕ}
use Rattle.plain_search.specs.declared.rides.Ride.{Ride}
use Rattle.plain_search.specs.Rides.{IsRideBetween}
use Rattle.otp_base.proofs.AddsLemmas.{adds_more_below, adds_option}
use Rattle.plain_search.proofs.RideLemmas.{adds_from_all}
use Rattle.plain_search.proofs.rides.add_rides_from.Goals as goal

pub loop-to-preserved : goal.loop-to-preserved
loop-to-preserved c =
    let R : ℕ → Ride → Type 0 = IsRideBetween c.args.run.now c.args.from in
    adds_more_below R c.loop-to.to _ _ _ c.loop-to.invariant (adds_option (R c.loop-to.to) _ _ _ c.in_ok-push_some.ensures c.in_ok-ride_between.ensures)

pub returns : goal.returns
returns c = adds_from_all c.args.run.now c.args.from c.loop-to.to _ _ (omega arith) c.loop-to.invariant
