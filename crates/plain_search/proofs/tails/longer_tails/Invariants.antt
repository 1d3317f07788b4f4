use Rattle.std.proofs.Common.{take, []}
use Rattle.otp_base.specs.Adds.{Adds, FromSome}
use Rattle.plain_search.specs.Tails.{IsLongerFrom}
use Rattle.plain_search.proofs.tails.longer_tails.Given as goal

abbrev pub invariant-loop-ride : goal.invariant-loop-ride
invariant-loop-ride l = Adds (FromSome (IsLongerFrom l.slack l.edges l.tails) (take l.ride-index l.rides)) [] l.longer.items
