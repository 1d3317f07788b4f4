use Rattle.otp_base.specs.Adds.{Adds, FromBelow}
use Rattle.plain_search.specs.Rides.{IsRideFrom}
use Rattle.plain_search.proofs.rides.add_rides_in.Given as goal

-- the rides from calls before `from` are added
abbrev pub invariant-loop-from : goal.invariant-loop-from
invariant-loop-from l = Adds (FromBelow (IsRideFrom l.run) l.from) l.initial.rides.items l.rides.items
