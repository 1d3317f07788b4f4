use Rattle.std.proofs.Common.{IfSome, List, Option, rules, subst, w64}
use Rattle.std.proofs.lemmas.Int.{to_z-of_z}
use Rattle.trip_patterns.specs.Lanes.{LaneOf}
use Rattle.trip_patterns.specs.Spans.{IsSpanOf}
use Rattle.raptor_rounds.specs.Rides.{CatchesAt, IsRidden}
use Rattle.raptor_rounds.specs.States.{bounds_of}
use Rattle.raptor_rounds.proofs.BoundLemmas.{lane_bounds, lost_place, none_depart}
use Rattle.raptor_rounds.proofs.SettleLemmas.{settles_none, settles_was}
use Rattle.raptor_rounds.proofs.BlockLemmas.{stops_at, timely_lanes}
use Rattle.raptor_rounds.proofs.BoardLemmas.{settles_block}
use Rattle.raptor_rounds.proofs.board.board_place.Goals as goal

pub board_lanes-requires-clause-lanes : goal.board_lanes-requires-clause-lanes
board_lanes-requires-clause-lanes g c =
    let t = c.args.timetable.now in
    timely_lanes (g.T.Timetable.blocks t) (g.T.Timetable.runs t) (g.met.T.Timetable.stands t) c.args.place.now.block c.block-lanes.result.now c.requires.timely c.block-lanes.ensures

pub board_lanes-requires-clause-stops : goal.board_lanes-requires-clause-stops
board_lanes-requires-clause-stops g c =
    let t = c.args.timetable.now in
    stops_at (g.T.Timetable.blocks t) (g.T.Timetable.runs t) (g.met.T.Timetable.stands t) c.args.ready.now.stop c.args.place.now c.block-lanes.result.now c.requires.place c.block-lanes.ensures

pub board_lanes-requires-clause-bounds : goal.board_lanes-requires-clause-bounds
board_lanes-requires-clause-bounds g c =
    let t = c.args.timetable.now in
    lane_bounds (g.T.Timetable.blocks t) c.args.request.now (bounds_of c.args.state.now) c.args.place.now.block c.block-lanes.result.now c.block-lanes.ensures c.requires.bounds

pub returns-then-not-may_depart : goal.returns-then-not-may_depart
returns-then-not-may_depart g c =
    let t = c.args.timetable.now in
    let blocks = g.T.Timetable.blocks t in
    let b = c.args.ready.now in
    let place = c.args.place.now in
    let lanes_are = (c.requires.place).lanes_are in
    settles_none c.args.request.now b.departure (CatchesAt blocks b place) (IsRidden blocks b) c.args.state.now c.requires.open
    (none_depart c.args.request.now c.args.state.now b (g.T.Timetable.runs t) blocks (g.met.T.Timetable.stands t) c.requires.timely c.requires.bounds place c.requires.place (c.requires.place).lanes lanes_are c.span-span.result
    (subst (λ (o : Option (List LaneOf)). IfSome o (λ lanes. IsSpanOf lanes c.span-span.result)) lanes_are c.span-span.ensures) (c.may_depart.ensures c.if-not-may_depart.true))

pub returns-then-is_lost_from : goal.returns-then-is_lost_from
returns-then-is_lost_from g c =
    let same = to_z-of_z w64 c.earliest-time.result (search rules) in
    let t = c.args.timetable.now in
    let blocks = g.T.Timetable.blocks t in
    let b = c.args.ready.now in
    let place = c.args.place.now in
    let lanes_are = (c.requires.place).lanes_are in
    settles_was c.args.request.now b.departure (CatchesAt blocks b place) (IsRidden blocks b) c.args.state.now c.requires.open
    (lost_place c.args.request.now c.args.state.now b (g.T.Timetable.runs t) blocks (g.met.T.Timetable.stands t) c.requires.timely c.requires.bounds place c.requires.place (c.requires.place).lanes lanes_are c.span-span.result
    (subst (λ (o : Option (List LaneOf)). IfSome o (λ lanes. IsSpanOf lanes c.span-span.result)) lanes_are c.span-span.ensures) c.earliest-time.result c.earliest-time.ensures.either (rw same at (c.is_lost_from.ensures c.if-is_lost_from.true)))

pub returns : goal.returns
returns g c =
    settles_block c.args.request.now (g.T.Timetable.blocks c.args.timetable.now) c.block-lanes.result.now c.args.ready.now c.args.place.now _ _ c.block-lanes.ensures c.in_ok-board_lanes.ensures
