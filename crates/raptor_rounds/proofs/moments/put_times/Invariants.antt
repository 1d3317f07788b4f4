use Rattle.std.proofs.Common.{take}
use Rattle.otp_base.specs.Adds.{Adds, FromSome}
use Rattle.raptor_rounds.specs.Moments.{IsMomentBy}
use Rattle.raptor_rounds.proofs.moments.put_times.Given as goal

abbrev pub invariant-loop-time : goal.invariant-loop-time
invariant-loop-time l = Adds (FromSome (IsMomentBy l.request l.reach) (take l.time-index l.times)) l.initial.moments.items l.moments.items
