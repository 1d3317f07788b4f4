use Rattle.otp_base.specs.Adds.{Adds, FromBelow}
use Rattle.plain_search.specs.Rides.{IsRideBetween}
use Rattle.plain_search.proofs.rides.add_rides_from.Given as goal

-- the rides to calls before `to` are added
abbrev pub invariant-loop-to : goal.invariant-loop-to
invariant-loop-to l = Adds (FromBelow (IsRideBetween l.run l.from) l.to) l.initial.rides.items l.rides.items
