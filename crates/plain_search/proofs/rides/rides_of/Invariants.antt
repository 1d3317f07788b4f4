use Rattle.std.proofs.Common.{[], take}
use Rattle.otp_base.specs.Adds.{Adds, FromSome}
use Rattle.plain_search.specs.Rides.{IsRideIn}
use Rattle.plain_search.proofs.rides.rides_of.Given as goal

-- the rides of the runs so far are there
abbrev pub invariant-loop-run : goal.invariant-loop-run
invariant-loop-run l = Adds (FromSome IsRideIn (take l.run-index l.runs)) [] l.rides.items
