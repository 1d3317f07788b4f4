use Rattle.std.proofs.Common.{arith}
use Rattle.otp_base.proofs.AddsLemmas.{adds_more_at, adds_option, adds_some_all}
use Rattle.raptor_rounds.specs.Labels.{IsFinalBy}
use Rattle.raptor_rounds.proofs.offer.push_finals.Goals as goal

pub loop-reach-preserved : goal.loop-reach-preserved
loop-reach-preserved c =
    adds_more_at (IsFinalBy c.args.request.now c.args.number c.args.node.now) c.args.egress.now c.loop-reach.reach-index _ _ _ _ (omega arith) c.loop-reach.invariant
    (adds_option _ _ _ _ c.in_ok-push_some.ensures c.final_at.ensures)

pub returns : goal.returns
returns c = adds_some_all (IsFinalBy c.args.request.now c.args.number c.args.node.now) c.args.egress.now c.loop-reach.reach-index _ _ (omega arith) c.loop-reach.invariant
