use Rattle.std.proofs.Common.{take}
use Rattle.otp_base.specs.Adds.{Adds, FromSome}
use Rattle.plain_search.specs.Tails.{IsLastTail}
use Rattle.plain_search.proofs.tails.add_last_tails.Given as goal

abbrev pub invariant-loop-reach : goal.invariant-loop-reach
invariant-loop-reach l = Adds (FromSome (IsLastTail l.ride) (take l.reach-index l.egress)) l.initial.tails.items l.tails.items
