use Rattle.std.proofs.Common.{arith}
use Rattle.otp_base.specs.Adds.{FromSome}
use Rattle.plain_search.specs.Tails.{IsLastTail}
use Rattle.plain_search.specs.declared.rides.Ride.{Ride}
use Rattle.otp_base.proofs.AddsLemmas.{adds_more_some, adds_some_all, Contains-adds}
use Rattle.plain_search.proofs.tails.last_tails.Goals as goal

pub loop-ride-preserved : goal.loop-ride-preserved
loop-ride-preserved c =
    adds_more_some (λ (ride : Ride). FromSome (IsLastTail ride) c.args.egress.now) c.args.rides.now c.loop-ride.ride-index c.ride-item.result _ _ _ (omega arith) c.ride-item.is c.loop-ride.invariant c.in_ok-add_last_tails.ensures

pub returns : goal.returns
returns c = Contains-adds _ _ (adds_some_all (λ (ride : Ride). FromSome (IsLastTail ride) c.args.egress.now) c.args.rides.now c.loop-ride.ride-index _ _ (omega arith) c.loop-ride.invariant)
