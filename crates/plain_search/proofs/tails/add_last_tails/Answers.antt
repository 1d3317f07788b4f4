use Rattle.std.proofs.Common.{arith}
use Rattle.plain_search.specs.Tails.{IsLastTail}
use Rattle.otp_base.proofs.AddsLemmas.{adds_more_at, adds_option}
use Rattle.plain_search.proofs.tails.add_last_tails.Goals as goal

pub loop-reach-preserved : goal.loop-reach-preserved
loop-reach-preserved c =
    adds_more_at (IsLastTail c.args.ride.now) c.args.egress.now c.loop-reach.reach-index _ _ _ _ (omega arith) c.loop-reach.invariant
    (adds_option _ _ _ _ c.in_ok-push_some.ensures c.in_ok-last_tail.ensures)
