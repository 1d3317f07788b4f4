use Rattle.std.proofs.Common.{rules, Global, [], ◌∷◌, ◌++◌, sym, ◌∙◌}
use Rattle.std.proofs.lemmas.List.{map-id}
use Rattle.std.proofs.lemmas.Iterator.Adapters.{YieldsList-from_vec}
use Rattle.std.proofs.lemmas.Iterator.Consumers.{YieldsList-end}
use Rattle.std.proofs.lemmas.List.Elements.{All-push}
use Rattle.trip_patterns.specs.Lanes.{IsLane}
use Rattle.trip_patterns.proofs.first_fit.finished.Goals as goal

pub returns-clause-same : goal.returns-clause-same
returns-clause-same c =
    let i = c.into_iter-builder-iterator.ensures.into_iter_gives in
    let road = YieldsList-from_vec {Z = Global} {s = c.into_iter-builder-iterator.result} c.args.builders.items i.0 (search rules) in
    let end = YieldsList-end road c.loop-builder.yielded _ c.loop-builder.yielded_by c.next.result c.next.new.self c.in-None.is c.next.ensures.steps in
    c.loop-builder.invariant.same ∙ sym (map-id c.loop-builder.yielded) ∙ end.0

pub loop-builder-preserved : goal.loop-builder-preserved
loop-builder-preserved c =
    let kept = c.loop-builder.invariant in
    rw c.in_ok-push.ensures.items (record {
      same = (λ i. kept.same i ++ c.finish.ensures.same i ∷ []);
      each = All-push IsLane c.loop-builder.lanes.items c.finish.result kept.each c.finish.ensures.lane;
    })
