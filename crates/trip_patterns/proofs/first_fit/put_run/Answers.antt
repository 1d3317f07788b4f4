use Rattle.std.proofs.Common.{◌≡◌, List, subst, ap, ◌∙◌, set, inl}
use Rattle.std.proofs.lemmas.Option.{get_or_from_slice_get}
use Rattle.std.proofs.lemmas.Result.{on_ok_weaker}
use Rattle.trip_patterns.specs.Lanes.{LaneOf, with_run}
use Rattle.trip_patterns.specs.Putting.{IsFirstFit}
use Rattle.trip_patterns.proofs.first_fit.put_run.Goals as goal

pub returns-in-Some-clause-put : goal.returns-in-Some-clause-put
returns-in-Some-clause-put g c =
    let lanes = c.args.lanes.now.items in
    let run = c.args.run.now in
    let place = c.in-Some.place in
    let found : IsFirstFit run lanes place = subst (λ (ls : List LaneOf). IsFirstFit run ls place) c.deref.ensures.value c.in-Some.ensures.some in
    let read : LaneOf = c.index_mut.result.now in
    let same : read ≡ found.lane = c.index_mut.ensures.value ∙ get_or_from_slice_get lanes place found.lane read found.lane_is in
    on_ok_weaker c.push_row.result
    (λ pushed. inl (record {
      place = place;
      found = found;
      after_is = ap (λ (l : LaneOf). set lanes place l) (pushed ∙ ap (λ (l : LaneOf). with_run l run) same);
    }))
    c.push_row.ensures.ok
