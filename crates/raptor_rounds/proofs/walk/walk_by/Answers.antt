use Rattle.std.proofs.Common.{ap, subst}
use Rattle.raptor_rounds.specs.declared.ready.Ready.{Ready}
use Rattle.raptor_rounds.specs.Marks.{mark_of}
use Rattle.raptor_rounds.specs.States.{IsCoveredAt, Settles}
use Rattle.raptor_rounds.proofs.MarkLemmas.{boarded_out, marked_settled, marks_put, marks_still}
use Rattle.raptor_rounds.specs.Rides.{Boards, IsRidden, ready_by}
use Rattle.raptor_rounds.specs.Scans.{IsWalkedBy, WalksBy}
use Rattle.raptor_rounds.proofs.BoundLemmas.{lost_boards}
use Rattle.raptor_rounds.proofs.SettleLemmas.{settles_was}
use Rattle.raptor_rounds.proofs.walk.walk_by.Goals as goal

pub returns-then-is_lost_stop-clause-settles : goal.returns-then-is_lost_stop-clause-settles
returns-then-is_lost_stop-clause-settles g c =
    let t = c.args.timetable.now in
    let r = c.args.request.now in
    let n = c.args.node.now in
    let runs = g.T.Timetable.runs t in
    settles_was r n.departure (WalksBy runs r c.args.number n c.args.edge.now) (IsWalkedBy (g.T.Timetable.blocks t) r c.args.number n c.args.edge.now) c.args.state.now c.requires.open
    (rw c.ready_by-ready.ensures.ready at (lost_boards r c.args.state.now c.ready_by-ready.result runs (g.T.Timetable.blocks t) (g.met.T.Timetable.stands t) c.requires.timely c.requires.bounds (c.is_lost_stop.ensures c.if-is_lost_stop.true)))

pub returns-then-is_marked-clause-settles : goal.returns-then-is_marked-clause-settles
returns-then-is_marked-clause-settles g c =
    let t = c.args.timetable.now in
    let r = c.args.request.now in
    let n = c.args.node.now in
    let i = c.args.number in
    let edge = c.args.edge.now in
    let runs = g.T.Timetable.runs t in
    let covered = rw c.mark_of-mark.ensures at (c.is_marked.ensures c.if-is_marked.true) in
    settles_was r n.departure (WalksBy runs r i n edge) (IsWalkedBy (g.T.Timetable.blocks t) r i n edge) c.args.state.now c.requires.open
    (marked_settled runs r c.args.state.now (ready_by r i n edge) c.args.marks.now c.requires.marks (subst (λ (b : Ready). IsCoveredAt c.args.marks.now.bags.items (mark_of b)) c.ready_by-ready.ensures.ready covered))

pub returns-clause-marks : goal.returns-clause-marks
returns-clause-marks g c =
    let t = c.args.timetable.now in
    let r = c.args.request.now in
    let n = c.args.node.now in
    let i = c.args.number in
    let edge = c.args.edge.now in
    let runs = g.T.Timetable.runs t in
    let b = c.ready_by-ready.result in
    let is = c.ready_by-ready.ensures.ready in
    let s = subst (λ (x : Ready). Settles r x.departure (Boards runs x) (IsRidden (g.T.Timetable.blocks t) x) c.args.state.now c.board.new.state) is c.in_ok-board.ensures in
    marks_put runs r n.departure c.board.new.state c.args.marks.now c.put_mark.new.marks (mark_of b)
    (marks_still runs r n.departure (WalksBy runs r i n edge) (IsWalkedBy (g.T.Timetable.blocks t) r i n edge) c.args.state.now c.board.new.state c.args.marks.now s c.requires.marks)
    (rw c.mark_of-mark.ensures at c.in_ok-put_mark.ensures) (ap (λ (x : Ready). x.departure) is) (boarded_out runs r c.board.new.state i n edge b is s.settled)
