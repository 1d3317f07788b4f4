use Rattle.std.proofs.Common.{take, []}
use Rattle.otp_base.specs.Adds.{Adds, FromSome}
use Rattle.plain_search.specs.Tails.{IsLastTail}
use Rattle.plain_search.proofs.tails.last_tails.Given as goal

abbrev pub invariant-loop-ride : goal.invariant-loop-ride
invariant-loop-ride l = Adds (FromSome (λ ride. FromSome (IsLastTail ride) l.egress) (take l.ride-index l.rides)) [] l.tails.items
