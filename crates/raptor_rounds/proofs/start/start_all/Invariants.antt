use Rattle.std.proofs.Common.{take}
use Rattle.otp_base.specs.Adds.{FromSome}
use Rattle.raptor_rounds.specs.Scans.{IsStartedBy, StartsBy}
use Rattle.raptor_rounds.specs.States.{Settles}
use Rattle.raptor_rounds.proofs.start.start_all.Given as goal

abbrev pub invariant-loop-reach : goal.invariant-loop-reach
invariant-loop-reach g l =
    Settles l.request l.departure (FromSome (StartsBy (g.T.Timetable.runs l.timetable) l.request l.departure) (take l.reach-index l.starts)) (FromSome (IsStartedBy (g.T.Timetable.blocks l.timetable) l.request l.departure) l.starts) l.initial.state l.state
