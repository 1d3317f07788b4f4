use Rattle.std.proofs.Common.{take}
use Rattle.otp_base.specs.Adds.{Adds, FromSome}
use Rattle.raptor_rounds.specs.Moments.{IsMomentAt}
use Rattle.raptor_rounds.proofs.moments.put_reach.Given as goal

abbrev pub invariant-loop-place : goal.invariant-loop-place
invariant-loop-place g l = Adds (FromSome (IsMomentAt (g.T.Timetable.blocks l.timetable) l.request l.reach) (take l.place-index l.place-items)) l.initial.moments.items l.moments.items
