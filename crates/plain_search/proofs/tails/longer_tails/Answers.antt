use Rattle.std.proofs.Common.{arith}
use Rattle.plain_search.specs.Tails.{IsLongerFrom}
use Rattle.otp_base.proofs.AddsLemmas.{adds_more_some, adds_some_all, Contains-adds}
use Rattle.plain_search.proofs.tails.longer_tails.Goals as goal

pub loop-ride-preserved : goal.loop-ride-preserved
loop-ride-preserved c =
    adds_more_some (IsLongerFrom c.args.slack c.args.edges.now c.args.tails.now) c.args.rides.now c.loop-ride.ride-index c.ride-item.result _ _ _ (omega arith) c.ride-item.is c.loop-ride.invariant c.in_ok-add_longer_from.ensures

pub returns : goal.returns
returns c = Contains-adds _ _ (adds_some_all (IsLongerFrom c.args.slack c.args.edges.now c.args.tails.now) c.args.rides.now c.loop-ride.ride-index _ _ (omega arith) c.loop-ride.invariant)
