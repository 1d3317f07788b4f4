use Rattle.std.proofs.Common.{arith}
use Rattle.plain_search.specs.Tails.{IsLonger}
use Rattle.otp_base.proofs.AddsLemmas.{adds_more_at, adds_option, adds_some_all}
use Rattle.plain_search.proofs.tails.add_longer_by.Goals as goal

pub loop-edge-preserved : goal.loop-edge-preserved
loop-edge-preserved c =
    adds_more_at (IsLonger c.args.slack c.args.ride.now c.args.tail.now) c.args.row.now c.loop-edge.edge-index _ _ _ _ (omega arith) c.loop-edge.invariant
    (adds_option _ _ _ _ c.in_ok-push_some.ensures c.in_ok-longer_tail.ensures)

pub returns : goal.returns
returns c = adds_some_all (IsLonger c.args.slack c.args.ride.now c.args.tail.now) c.args.row.now c.loop-edge.edge-index _ _ (omega arith) c.loop-edge.invariant
