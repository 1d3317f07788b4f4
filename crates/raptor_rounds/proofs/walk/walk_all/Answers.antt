use Rattle.raptor_rounds.proofs.BoundLemmas.{bounds_stay}
use Rattle.std.proofs.Common.{arith, rules, length, sym, subst, ◌≡◌, ◌<◌, ℤ, vec_len}
use Rattle.otp_base.specs.Adds.{FromBelow}
use Rattle.raptor_rounds.specs.Marks.{AreMarks}
use Rattle.raptor_rounds.specs.Scans.{GoesOnAt, IsNext}
use Rattle.raptor_rounds.specs.States.{IsOpenAt}
use Rattle.raptor_rounds.proofs.SettleLemmas.{settles_for}
use Rattle.raptor_rounds.proofs.WalkLemmas.{read_kept, settles_scan, within_kept}
use Rattle.raptor_rounds.proofs.walk.walk_all.Goals as goal

pub index-requires : goal.index-requires
index-requires g c =
    let old = c.args.state.now.arena.items in
    let state = c.loop-number.state in
    let less : c.loop-number.number < length old = omega arith in
    let count : vec_len state.arena ≡ length state.arena.items = search rules in
    rw count (within_kept old state.arena.items c.loop-number.number c.loop-number.invariant.settles.kept less)

pub walk_from-requires-clause-node : goal.walk_from-requires-clause-node
walk_from-requires-clause-node g c =
    let old = c.args.state.now.arena.items in
    let number = c.loop-number.number in
    let n = c.index.result.now in
    c.requires.open.open_is.in_range number n (read_kept old c.loop-number.state.arena.items number n c.loop-number.invariant.settles.kept (omega arith) c.index.ensures)

pub walk_from-requires-clause-few : goal.walk_from-requires-clause-few
walk_from-requires-clause-few g c =
    let old = c.args.state.now.arena.items in
    let number = c.loop-number.number in
    let n = c.index.result.now in
    let round = c.requires.round number n (read_kept old c.loop-number.state.arena.items number n c.loop-number.invariant.settles.kept (omega arith) c.index.ensures) in
    omega (arith, round.rides_are (omega arith), c.requires.few)

pub walk_from-requires-clause-open : goal.walk_from-requires-clause-open
walk_from-requires-clause-open g c =
    let old = c.args.state.now.arena.items in
    let number = c.loop-number.number in
    let n = c.index.result.now in
    let round = c.requires.round number n (read_kept old c.loop-number.state.arena.items number n c.loop-number.invariant.settles.kept (omega arith) c.index.ensures) in
    subst (λ (d : ℤ). IsOpenAt c.args.request.now d c.loop-number.state) (sym (round.departs (omega arith))) c.loop-number.invariant.settles.open_is

pub loop-number-preserved : goal.loop-number-preserved
loop-number-preserved g c =
    let t = c.args.timetable.now in
    let old = c.args.state.now in
    let number = c.loop-number.number in
    let n = c.index.result.now in
    let is = read_kept old.arena.items c.loop-number.state.arena.items number n c.loop-number.invariant.settles.kept (omega arith) c.index.ensures in
    let round = c.requires.round number n is in
    record {
      settles = settles_scan (g.T.Timetable.blocks t) (g.T.Timetable.runs t) c.args.edges.now c.args.request.now c.args.departure.now c.args.first number n old _ _ (omega arith) is (round.departs (omega arith))
          c.loop-number.invariant.settles c.in_ok-walk_from.ensures.settles;
      marks = subst (λ (d : ℤ). AreMarks (g.T.Timetable.runs t) c.args.request.now c.walk_from.new.state d c.walk_from.new.marks) (round.departs (omega arith)) c.in_ok-walk_from.ensures.marks;
    }

pub returns-clause-settles : goal.returns-clause-settles
returns-clause-settles g c =
    let t = c.args.timetable.now in
    let old = c.args.state.now in
    let Q = GoesOnAt (g.T.Timetable.runs t) c.args.edges.now c.args.request.now old.arena.items c.args.first in
    let P = IsNext (g.T.Timetable.blocks t) c.args.edges.now c.args.request.now old.arena.items c.args.first in
    settles_for c.args.request.now c.args.departure.now (FromBelow Q c.loop-number.number) (FromBelow Q (length old.arena.items)) P P old _
    (λ e q. (q.0, omega (arith, q.1), q.2)) (λ m p. p) c.loop-number.invariant.settles

pub walk_from-requires-clause-bounds : goal.walk_from-requires-clause-bounds
walk_from-requires-clause-bounds g c = bounds_stay (g.T.Timetable.blocks c.args.timetable.now) c.args.request.now c.args.state.now c.loop-number.state c.loop-number.invariant.settles.aim_is c.requires.bounds

pub walk_from-requires-clause-marks : goal.walk_from-requires-clause-marks
walk_from-requires-clause-marks g c =
    let old = c.args.state.now.arena.items in
    let number = c.loop-number.number in
    let n = c.index.result.now in
    let round = c.requires.round number n (read_kept old c.loop-number.state.arena.items number n c.loop-number.invariant.settles.kept (omega arith) c.index.ensures) in
    subst (λ (d : ℤ). AreMarks (g.T.Timetable.runs c.args.timetable.now) c.args.request.now c.loop-number.state d c.loop-number.marks) (sym (round.departs (omega arith))) c.loop-number.invariant.marks
