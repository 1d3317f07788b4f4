use Rattle.std.proofs.Common.{arith, length}
use Rattle.std.proofs.lemmas.Option.{slice_get_within}
use Rattle.otp_base.specs.Adds.{FromBelow}
use Rattle.raptor_rounds.specs.Rides.{AlightsAt, Catches, IsRiddenOn}
use Rattle.std.proofs.lemmas.Int.{ints}
use Rattle.raptor_rounds.proofs.BoundLemmas.{departs_soon, lost_catch}
use Rattle.raptor_rounds.proofs.LaneLemmas.{boarded_first, catches_late, catches_none, first_departs, first_is_best}
use Rattle.raptor_rounds.proofs.SettleLemmas.{settles_as, settles_none, settles_was}
use Rattle.raptor_rounds.proofs.ride.board_lane.Goals as goal

pub returns-then-row-rows : goal.returns-then-row-rows
returns-then-row-rows c =
    let lane = c.args.lane.now in
    let b = c.args.ready.now in
    let at = c.args.at.now in
    let first = c.first_in_time-row.ensures in
    settles_none c.args.request.now b.departure (Catches lane b at.position) (IsRiddenOn lane b at.block at.lane) c.args.state.now c.requires.open
    (λ e q. catches_none lane b at.position c.first_in_time-row.result c.requires.lane.is_lane first e q (omega (arith, c.rows.ensures, c.if-row-rows.true)))

pub call-board-requires-clause-position : goal.call-board-requires-clause-position
call-board-requires-clause-position c = slice_get_within c.args.lane.now.pattern c.args.at.now.position c.requires.stops.spot c.requires.stops.spot_is

pub returns-then-not-is_until : goal.returns-then-not-is_until
returns-then-not-is_until c =
    let lane = c.args.lane.now in
    let b = c.args.ready.now in
    let at = c.args.at.now in
    settles_none c.args.request.now b.departure (Catches lane b at.position) (IsRiddenOn lane b at.block at.lane) c.args.state.now c.requires.open
    (λ e q. catches_late lane b at.position c.first_in_time-row.result c.requires.lane.is_lane c.first_in_time-row.ensures e q c.call-board.result c.call-board.ensures (λ until. let yes = c.is_until.ensures.1 until in let no = c.if-not-is_until.true in cc))

pub is_lost_from-requires-clause-after : goal.is_lost_from-requires-clause-after
is_lost_from-requires-clause-after c = c.first_in_time-row.ensures.caught c.call-board.result c.call-board.ensures

pub is_lost_from-requires-clause-soon : goal.is_lost_from-requires-clause-soon
is_lost_from-requires-clause-soon c =
    let t = departs_soon c.args.lane.now c.first_in_time-row.result c.args.at.now.position c.call-board.result c.requires.lane c.call-board.ensures in
    let high = t.high in
    omega (arith, ints, high)

pub returns-then-is_lost_from : goal.returns-then-is_lost_from
returns-then-is_lost_from c =
    let lane = c.args.lane.now in
    let b = c.args.ready.now in
    let at = c.args.at.now in
    let row = c.first_in_time-row.result in
    let board = c.call-board.result in
    settles_was c.args.request.now b.departure (Catches lane b at.position) (IsRiddenOn lane b at.block at.lane) c.args.state.now c.requires.open
    (λ e q. lost_catch c.args.request.now c.args.state.now b lane at.block at.position board.departure c.requires.bounds c.requires.lane c.requires.stops (c.is_lost_from.ensures c.if-is_lost_from.true) e q
    (first_departs lane b at.position row c.requires.lane.is_lane c.first_in_time-row.ensures e q board c.call-board.ensures))

pub ride-requires-clause-boarded : goal.ride-requires-clause-boarded
ride-requires-clause-boarded c =
    boarded_first c.args.lane.now c.args.ready.now c.args.at.now.position c.first_in_time-row.result c.call-board.result c.may_board.result c.requires.lane.is_lane c.first_in_time-row.ensures c.requires.stops
    c.may_board.ensures c.if-not-may_board.false c.call-board.ensures (c.is_until.ensures.0 c.if-not-is_until.false)

pub returns : goal.returns
returns c =
    let lane = c.args.lane.now in
    let b = c.args.ready.now in
    let at = c.args.at.now in
    let row = c.first_in_time-row.result in
    settles_as c.args.request.now b.departure (FromBelow (AlightsAt lane b at.position row) (length lane.pattern)) (Catches lane b at.position)
    (IsRiddenOn lane b at.block at.lane) (IsRiddenOn lane b at.block at.lane) _ _
    (λ e q. first_is_best lane b at.position row c.requires.lane.is_lane c.first_in_time-row.ensures e q c.call-board.ensures.run c.call-board.ensures.run_is) (λ n p. p) c.in_ok-ride.ensures
