use Rattle.raptor_rounds.specs.Marks.{AreMarks}
use Rattle.raptor_rounds.specs.States.{IsRound}
use Rattle.raptor_rounds.proofs.round.walk_rounds.Given as goal

abbrev pub invariant-loop-rides : goal.invariant-loop-rides
invariant-loop-rides g l =
    record {
      round : IsRound (g.T.Timetable.runs l.timetable) (g.T.Timetable.blocks l.timetable) l.edges l.request l.departure l.initial.state.departures.items l.first l.rides l.state;
      marks : AreMarks (g.T.Timetable.runs l.timetable) l.request l.state l.departure l.marks;
    }
