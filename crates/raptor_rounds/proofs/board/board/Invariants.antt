use Rattle.std.proofs.Common.{take}
use Rattle.otp_base.specs.Adds.{FromSome}
use Rattle.raptor_rounds.specs.Rides.{CatchesAt, IsRidden}
use Rattle.raptor_rounds.specs.States.{Settles}
use Rattle.raptor_rounds.proofs.board.board.Given as goal

abbrev pub invariant-loop-place : goal.invariant-loop-place
invariant-loop-place g l =
    Settles l.request l.ready.departure (FromSome (CatchesAt (g.T.Timetable.blocks l.timetable) l.ready) (take l.place-index l.place-items)) (IsRidden (g.T.Timetable.blocks l.timetable) l.ready) l.initial.state l.state
