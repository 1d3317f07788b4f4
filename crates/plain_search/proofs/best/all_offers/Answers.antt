use Rattle.std.proofs.Common.{arith, ◌+◌}
use Rattle.plain_search.proofs.OfferLemmas.{level_one, level_more, tails_valued, tails_first, tails_more, enough_offers}
use Rattle.plain_search.proofs.best.all_offers.Goals as goal

pub add_offers-requires-clause-tails : goal.add_offers-requires-clause-tails
add_offers-requires-clause-tails c =
    let first = tails_first c.args.runs.now c.args.edges.now c.args.request.now c.in_ok-rides.rides.items c.in_ok-rides.ensures c.args.egress.now c.in_ok-tails.tails.items c.requires.egress (rw c.deref.ensures.value at c.in_ok-tails.ensures) in
    rw c.deref-2.ensures.value (tails_valued c.args.runs.now c.args.edges.now c.args.request.now c.requires.runs 1 c.in_ok-tails.tails.items (omega arith) first)

pub loop-more-init : goal.loop-more-init
loop-more-init c =
    let first = tails_first c.args.runs.now c.args.edges.now c.args.request.now c.in_ok-rides.rides.items c.in_ok-rides.ensures c.args.egress.now c.in_ok-tails.tails.items c.requires.egress (rw c.deref.ensures.value at c.in_ok-tails.ensures) in
    level_one c.args.runs.now c.args.edges.now c.args.request.now c.args.access.now c.in_ok-tails.tails.items _ first
    (rw (c.deref-2.ensures.value, c.new-offers.ensures.items) at c.in_ok-add_offers.ensures)

pub add_offers-requires-in-loop-more-clause-tails : goal.add_offers-requires-in-loop-more-clause-tails
add_offers-requires-in-loop-more-clause-tails c =
    let more = tails_more c.args.runs.now c.args.edges.now c.args.request.now c.in_ok-rides.rides.items c.in_ok-rides.ensures c.loop-more.more c.loop-more.tails.items c.in_ok-tails-2.tails.items (omega arith) c.loop-more.invariant.tails_are
    (rw (c.deref-in-loop-more.ensures.value, c.deref-in-loop-more-2.ensures.value) at c.in_ok-tails-2.ensures) in
    rw c.deref-in-loop-more-3.ensures.value (tails_valued c.args.runs.now c.args.edges.now c.args.request.now c.requires.runs (c.loop-more.more + 1) c.in_ok-tails-2.tails.items (omega (arith, c.requires.request.rides)) more)

pub loop-more-preserved : goal.loop-more-preserved
loop-more-preserved c =
    let more = tails_more c.args.runs.now c.args.edges.now c.args.request.now c.in_ok-rides.rides.items c.in_ok-rides.ensures c.loop-more.more c.loop-more.tails.items c.in_ok-tails-2.tails.items (omega arith) c.loop-more.invariant.tails_are
    (rw (c.deref-in-loop-more.ensures.value, c.deref-in-loop-more-2.ensures.value) at c.in_ok-tails-2.ensures) in
    level_more c.args.runs.now c.args.edges.now c.args.request.now c.args.access.now c.loop-more.more c.loop-more.tails.items c.in_ok-tails-2.tails.items _ _ c.loop-more.invariant more
    (rw c.deref-in-loop-more-3.ensures.value at c.in_ok-add_offers-2.ensures)

pub returns : goal.returns
returns c = enough_offers c.args.runs.now c.args.edges.now c.args.request.now c.args.access.now c.requires.access c.loop-more.more _ (omega (arith, c.requires.request.rides)) c.loop-more.invariant.offers_are
