use Rattle.std.proofs.Common.{rules, Global, length, sym, ◌∙◌}
use Rattle.std.proofs.lemmas.List.{map-id}
use Rattle.std.proofs.lemmas.Iterator.Adapters.{YieldsList-from_vec}
use Rattle.std.proofs.lemmas.Iterator.Consumers.{YieldsList-turn, YieldsList-end, YieldsList-so_far}
use Rattle.pareto_front.proofs.FrontLemmas.{front_more, front_all}
use Rattle.pareto_front.proofs.WholeLemmas.{whole_from_front}
use Rattle.pareto_front.proofs.front.front_of.Goals as goal

pub loop-offer-preserved : goal.loop-offer-preserved
loop-offer-preserved c =
    let sorted = c.sort_by_value.new.offers.items in
    let i = c.into_iter-offer-iterator.ensures.into_iter_gives in
    let road = YieldsList-from_vec {Z = Global} {s = c.into_iter-offer-iterator.result} sorted i.0 (search rules) in
    let so_far = YieldsList-so_far road c.loop-offer.yielded _ c.loop-offer.yielded_by in
    let turn = YieldsList-turn road c.loop-offer.yielded _ c.loop-offer.yielded_by c.next.result c.next.new.self c.in-Some.offer c.in-Some.is c.next.ensures.steps in
    front_more c.in_ok-values.values.items sorted c.loop-offer.yielded _ _ (length c.loop-offer.yielded) c.in-Some.offer c.in_ok-sort_by_value.ensures.sorted
    (sym (map-id c.loop-offer.yielded) ∙ so_far) turn.0 turn.1 c.loop-offer.invariant (rw c.deref-in-loop-offer.ensures.value at c.in_ok-keep_if_wanted.ensures)

pub returns : goal.returns
returns c =
    let sorted = c.sort_by_value.new.offers.items in
    let i = c.into_iter-offer-iterator.ensures.into_iter_gives in
    let road = YieldsList-from_vec {Z = Global} {s = c.into_iter-offer-iterator.result} sorted i.0 (search rules) in
    let end = YieldsList-end road c.loop-offer.yielded _ c.loop-offer.yielded_by c.next.result c.next.new.self c.in-None.is c.next.ensures.steps in
    let front = front_all c.args.offers.items sorted c.loop-offer.yielded _ c.in_ok-values.values.items c.sort_by_value.ensures.permutation (rw c.deref.ensures.value at c.in_ok-values.ensures)
    (sym (map-id c.loop-offer.yielded) ∙ end.0) c.loop-offer.invariant in
    record {
      front = front;
      whole = λ runs edges r enough. whole_from_front runs edges r c.args.offers.items c.loop-offer.list.items enough front;
    }
