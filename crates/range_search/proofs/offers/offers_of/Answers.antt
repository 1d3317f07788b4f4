use Rattle.std.proofs.Common.{arith, subst, List}
use Rattle.std.proofs.lemmas.List.{take_all}
use Rattle.raptor_rounds.specs.declared.node.Final.{Final}
use Rattle.range_search.specs.Searches.{AreOffers}
use Rattle.range_search.proofs.OfferLemmas.{kept_at, offers_more_at, offers_none}
use Rattle.range_search.proofs.offers.offers_of.Goals as goal

pub loop-last-init : goal.loop-last-init
loop-last-init g c =
    let t = c.args.timetable.now in
    offers_none (g.T.Timetable.runs t) (g.T.Timetable.blocks t) c.args.state.now c.finals-last-items.result.now _ c.new-offers.ensures.items

pub offer_of-requires : goal.offer_of-requires
offer_of-requires g c =
    kept_at (g.T.Timetable.blocks c.args.timetable.now) c.args.state.now c.finals-last-items.result.now c.loop-last.last-index _ c.finals-last-items.ensures c.requires (omega arith)

pub loop-last-preserved : goal.loop-last-preserved
loop-last-preserved g c =
    let t = c.args.timetable.now in
    rw c.in_ok-push.ensures.items
    (offers_more_at (g.T.Timetable.runs t) (g.T.Timetable.blocks t) c.args.state.now c.finals-last-items.result.now c.loop-last.last-index _ c.loop-last.offers.items c.in_ok-offer_of.field-0 (omega arith) c.loop-last.invariant c.in_ok-offer_of.ensures)

pub returns : goal.returns
returns g c =
    let t = c.args.timetable.now in
    let finals = c.finals-last-items.result.now in
    subst (λ (xs : List Final). AreOffers (g.T.Timetable.runs t) (g.T.Timetable.blocks t) c.args.state.now xs c.loop-last.offers.items) c.finals-last-items.ensures
    (rw (take_all c.loop-last.last-index finals (omega arith)) at c.loop-last.invariant)
