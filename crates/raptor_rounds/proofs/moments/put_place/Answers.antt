use Rattle.std.proofs.Common.{List, subst, sym, ◌∙◌}
use Rattle.std.proofs.lemmas.Option.{same_Some}
use Rattle.otp_base.specs.Adds.{FromSome}
use Rattle.otp_base.proofs.AddsLemmas.{adds_as}
use Rattle.trip_patterns.specs.Lanes.{LaneOf}
use Rattle.raptor_rounds.specs.Moments.{IsMomentAt, IsMomentOn}
use Rattle.raptor_rounds.proofs.BlockLemmas.{stops_at, timely_lanes}
use Rattle.raptor_rounds.proofs.moments.put_place.Goals as goal

pub put_lanes-requires-clause-lanes : goal.put_lanes-requires-clause-lanes
put_lanes-requires-clause-lanes g c =
    let t = c.args.timetable.now in
    timely_lanes (g.T.Timetable.blocks t) (g.T.Timetable.runs t) (g.met.T.Timetable.stands t) c.args.place.now.block c.block-lanes.result.now c.requires.timely c.block-lanes.ensures

pub put_lanes-requires-clause-stops : goal.put_lanes-requires-clause-stops
put_lanes-requires-clause-stops g c =
    let t = c.args.timetable.now in
    stops_at (g.T.Timetable.blocks t) (g.T.Timetable.runs t) (g.met.T.Timetable.stands t) c.args.reach.now.stop c.args.place.now c.block-lanes.result.now c.requires.place c.block-lanes.ensures

pub returns : goal.returns
returns g c =
    let blocks = g.T.Timetable.blocks c.args.timetable.now in
    let r = c.args.request.now in
    let reach = c.args.reach.now in
    let place = c.args.place.now in
    let lanes = c.block-lanes.result.now in
    adds_as (FromSome (IsMomentOn r reach place.position) lanes) (IsMomentAt blocks r reach place) _ _ (λ t p. (lanes, c.block-lanes.ensures, p))
    (λ t q. subst (λ (x : List LaneOf). FromSome (IsMomentOn r reach place.position) x t) (same_Some q.0 lanes (sym q.1 ∙ c.block-lanes.ensures)) q.2) c.in_ok-put_lanes.ensures
