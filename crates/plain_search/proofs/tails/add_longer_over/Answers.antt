use Rattle.std.proofs.Common.{arith}
use Rattle.plain_search.specs.Tails.{IsLongerBy}
use Rattle.otp_base.proofs.AddsLemmas.{adds_more_some, adds_some_all}
use Rattle.plain_search.proofs.tails.add_longer_over.Goals as goal

pub loop-tail-preserved : goal.loop-tail-preserved
loop-tail-preserved c =
    adds_more_some (IsLongerBy c.args.slack c.args.row.now c.args.ride.now) c.args.tails.now c.loop-tail.tail-index c.tail-item.result _ _ _ (omega arith) c.tail-item.is c.loop-tail.invariant
    (rw c.as_slice.ensures at c.in_ok-add_longer_by.ensures)

pub returns : goal.returns
returns c = adds_some_all (IsLongerBy c.args.slack c.args.row.now c.args.ride.now) c.args.tails.now c.loop-tail.tail-index _ _ (omega arith) c.loop-tail.invariant
