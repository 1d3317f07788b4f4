use Rattle.std.proofs.Common.{arith}
use Rattle.plain_search.specs.Offers.{IsOffer}
use Rattle.otp_base.proofs.AddsLemmas.{adds_more_at, adds_option, adds_some_all}
use Rattle.plain_search.proofs.offers.add_offers_by.Goals as goal

pub loop-reach-preserved : goal.loop-reach-preserved
loop-reach-preserved c =
    adds_more_at (IsOffer c.args.request.now c.args.tail.now) c.args.access.now c.loop-reach.reach-index _ _ _ _ (omega arith) c.loop-reach.invariant
    (adds_option _ _ _ _ c.in_ok-push_some.ensures c.in_ok-offer.ensures)

pub returns : goal.returns
returns c = adds_some_all (IsOffer c.args.request.now c.args.tail.now) c.args.access.now c.loop-reach.reach-index _ _ (omega arith) c.loop-reach.invariant
