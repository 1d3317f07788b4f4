use Rattle.raptor_rounds.proofs.BoundLemmas.{bounds_stay}
use Rattle.std.proofs.Common.{arith}
use Rattle.otp_base.specs.Adds.{FromSome}
use Rattle.raptor_rounds.specs.Rides.{Boards, CatchesAt, IsRidden}
use Rattle.raptor_rounds.proofs.BlockLemmas.{boards_at_place}
use Rattle.raptor_rounds.proofs.SettleLemmas.{settles_for, settles_more_at, settles_some_all}
use Rattle.raptor_rounds.proofs.board.board.Goals as goal

pub loop-place-preserved : goal.loop-place-preserved
loop-place-preserved g c =
    let blocks = g.T.Timetable.blocks c.args.timetable.now in
    let b = c.args.ready.now in
    settles_more_at c.args.request.now b.departure (CatchesAt blocks b) (IsRidden blocks b) c.blocks_at-place-items.result.now c.loop-place.place-index _ _ _ _
    (omega arith) c.loop-place.invariant c.in_ok-board_place.ensures

pub returns : goal.returns
returns g c =
    let t = c.args.timetable.now in
    let blocks = g.T.Timetable.blocks t in
    let b = c.args.ready.now in
    let places = c.blocks_at-place-items.result.now in
    settles_for c.args.request.now b.departure (FromSome (CatchesAt blocks b) places) (Boards (g.T.Timetable.runs t) b) (IsRidden blocks b) (IsRidden blocks b) _ _
    (λ e q. boards_at_place blocks (g.T.Timetable.runs t) (g.met.T.Timetable.stands t) b places e c.blocks_at-place-items.ensures q) (λ n p. p)
    (settles_some_all c.args.request.now b.departure (CatchesAt blocks b) (IsRidden blocks b) places c.loop-place.place-index _ _ (omega arith) c.loop-place.invariant)

pub board_place-requires-clause-bounds : goal.board_place-requires-clause-bounds
board_place-requires-clause-bounds g c = bounds_stay (g.T.Timetable.blocks c.args.timetable.now) c.args.request.now c.args.state.now c.loop-place.state c.loop-place.invariant.aim_is c.requires.bounds
