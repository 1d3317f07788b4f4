use Rattle.std.proofs.Common.{arith}
use Rattle.std.proofs.lemmas.List.Elements.{All-contains}
use Rattle.otp_base.specs.Adds.{FromSome}
use Rattle.otp_base.proofs.AddsLemmas.{adds_as, adds_more_at, adds_some_all}
use Rattle.trip_patterns.specs.Timetables.{IsPlaceOf}
use Rattle.raptor_rounds.specs.Moments.{IsMomentAt, IsMomentFrom}
use Rattle.raptor_rounds.proofs.moments.put_reach.Goals as goal

pub loop-place-preserved : goal.loop-place-preserved
loop-place-preserved g c =
    adds_more_at (IsMomentAt (g.T.Timetable.blocks c.args.timetable.now) c.args.request.now c.args.reach.now) c.blocks_at-place-items.result.now c.loop-place.place-index _ _ _ _ (omega arith) c.loop-place.invariant c.in_ok-put_place.ensures

pub returns : goal.returns
returns g c =
    let blocks = g.T.Timetable.blocks c.args.timetable.now in
    let r = c.args.request.now in
    let reach = c.args.reach.now in
    let places = c.blocks_at-place-items.result.now in
    let are = c.blocks_at-place-items.ensures in
    adds_as (FromSome (IsMomentAt blocks r reach) places) (IsMomentFrom blocks r reach) _ _
    (λ t p. (p.0, All-contains (IsPlaceOf blocks reach.stop) places p.0 are.only p.1, p.2))
    (λ t q. (q.0, are.whole q.0 q.1, q.2))
    (adds_some_all (IsMomentAt blocks r reach) places c.loop-place.place-index _ _ (omega arith) c.loop-place.invariant)
