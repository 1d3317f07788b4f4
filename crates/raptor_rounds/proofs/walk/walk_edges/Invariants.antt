use Rattle.std.proofs.Common.{take}
use Rattle.otp_base.specs.Adds.{FromSome}
use Rattle.raptor_rounds.specs.Marks.{AreMarks}
use Rattle.raptor_rounds.specs.Scans.{IsWalkedBy, WalksBy}
use Rattle.raptor_rounds.specs.States.{Settles}
use Rattle.raptor_rounds.proofs.walk.walk_edges.Given as goal

abbrev pub invariant-loop-edge : goal.invariant-loop-edge
invariant-loop-edge g l =
    record {
      settles : Settles l.request l.node.departure (FromSome (WalksBy (g.T.Timetable.runs l.timetable) l.request l.number l.node) (take l.edge-index l.row)) (FromSome (IsWalkedBy (g.T.Timetable.blocks l.timetable) l.request l.number l.node) l.row) l.initial.state l.state;
      marks : AreMarks (g.T.Timetable.runs l.timetable) l.request l.state l.node.departure l.marks;
    }
