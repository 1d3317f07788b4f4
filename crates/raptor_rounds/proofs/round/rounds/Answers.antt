use Rattle.std.proofs.Common.{length, refl, rules, w64, ◌≡◌}
use Rattle.std.proofs.lemmas.Int.{to_z-of_z}
use Rattle.raptor_rounds.specs.States.{bounds_of}
use Rattle.raptor_rounds.proofs.BlockLemmas.{ride_bounds}
use Rattle.raptor_rounds.proofs.RoundLemmas.{finals_enough, marks_first, round_first, searched_after}
use Rattle.raptor_rounds.proofs.round.rounds.Goals as goal

pub walk_rounds-requires-clause-round : goal.walk_rounds-requires-clause-round
walk_rounds-requires-clause-round g c =
    let t = c.args.timetable.now in
    let old = c.args.state.now in
    let same = to_z-of_z w64 c.args.departure.now (search rules) in
    let count : c.len-first.result ≡ length old.arena.items = search rules in
    rw count (round_first (g.T.Timetable.runs t) (g.T.Timetable.blocks t) (g.met.T.Timetable.stands t) c.args.edges.now c.args.request.now c.args.departure.now c.args.starts.now old _ _ c.requires.starts c.requires.searched
    refl refl refl (rw same at c.in_ok-push.ensures.items) c.in_ok-start_all.ensures)

pub start_all-requires-clause-bounds : goal.start_all-requires-clause-bounds
start_all-requires-clause-bounds g c =
    ride_bounds (g.T.Timetable.blocks c.args.timetable.now) c.args.edges.now c.args.request.now (bounds_of c.args.state.now) c.requires.searched.bounds

pub walk_rounds-requires-clause-marks : goal.walk_rounds-requires-clause-marks
walk_rounds-requires-clause-marks g c =
    let t = c.args.timetable.now in
    let old = c.args.state.now in
    let same = to_z-of_z w64 c.args.departure.now (search rules) in
    rw c.replace-marks.ensures.value (marks_first (g.T.Timetable.runs t) (g.T.Timetable.blocks t) (g.met.T.Timetable.stands t) c.args.edges.now c.args.request.now c.args.departure.now c.args.starts.now old _ _ c.requires.starts c.requires.searched
    refl refl refl (rw same at c.in_ok-push.ensures.items) c.in_ok-start_all.ensures c.requires.later)

pub returns-clause-searched : goal.returns-clause-searched
returns-clause-searched g c =
    let t = c.args.timetable.now in
    searched_after (g.T.Timetable.runs t) (g.T.Timetable.blocks t) c.args.edges.now c.args.request.now c.args.departure.now _ c.walk_rounds.new.state c.walk_rounds.new.marks c.in_ok-walk_rounds.ensures.round c.in_ok-walk_rounds.ensures.marks

pub returns-clause-finals : goal.returns-clause-finals
returns-clause-finals g c =
    let t = c.args.timetable.now in
    finals_enough (g.T.Timetable.runs t) (g.T.Timetable.blocks t) c.args.edges.now c.args.request.now (g.met.T.Timetable.stands t) (record c.walk_rounds.new.state { marks = c.walk_rounds.new.marks }) c.requires.search
    (searched_after (g.T.Timetable.runs t) (g.T.Timetable.blocks t) c.args.edges.now c.args.request.now c.args.departure.now _ c.walk_rounds.new.state c.walk_rounds.new.marks c.in_ok-walk_rounds.ensures.round c.in_ok-walk_rounds.ensures.marks)
