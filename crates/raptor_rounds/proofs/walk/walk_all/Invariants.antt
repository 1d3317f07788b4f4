use Rattle.otp_base.specs.Adds.{FromBelow}
use Rattle.raptor_rounds.specs.Marks.{AreMarks}
use Rattle.raptor_rounds.specs.Scans.{GoesOnAt, IsNext}
use Rattle.raptor_rounds.specs.States.{Settles}
use Rattle.raptor_rounds.proofs.walk.walk_all.Given as goal

abbrev pub invariant-loop-number : goal.invariant-loop-number
invariant-loop-number g l =
    record {
      settles : Settles l.request l.departure (FromBelow (GoesOnAt (g.T.Timetable.runs l.timetable) l.edges l.request l.initial.state.arena.items l.first) l.number) (IsNext (g.T.Timetable.blocks l.timetable) l.edges l.request l.initial.state.arena.items l.first) l.initial.state l.state;
      marks : AreMarks (g.T.Timetable.runs l.timetable) l.request l.state l.departure l.marks;
    }
