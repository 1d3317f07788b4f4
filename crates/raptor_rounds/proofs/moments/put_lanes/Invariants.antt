use Rattle.std.proofs.Common.{take}
use Rattle.otp_base.specs.Adds.{Adds, FromSome}
use Rattle.raptor_rounds.specs.Moments.{IsMomentOn}
use Rattle.raptor_rounds.proofs.moments.put_lanes.Given as goal

abbrev pub invariant-loop-lane : goal.invariant-loop-lane
invariant-loop-lane l = Adds (FromSome (IsMomentOn l.request l.reach l.position) (take l.lane-index l.lanes)) l.initial.moments.items l.moments.items
