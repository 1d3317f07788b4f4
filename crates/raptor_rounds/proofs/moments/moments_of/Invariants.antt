use Rattle.std.proofs.Common.{take}
use Rattle.otp_base.specs.Adds.{Adds, FromSome}
use Rattle.raptor_rounds.specs.Moments.{IsMomentFrom}
use Rattle.raptor_rounds.proofs.moments.moments_of.Given as goal

abbrev pub invariant-loop-reach : goal.invariant-loop-reach
invariant-loop-reach g l = Adds (FromSome (IsMomentFrom (g.T.Timetable.blocks l.timetable) l.request) (take l.reach-index l.starts)) l.initial.moments.items l.moments.items
