use Rattle.std.proofs.Common.{take}
use Rattle.otp_base.specs.Adds.{Adds, FromSome}
use Rattle.plain_search.specs.Tails.{IsLongerBy}
use Rattle.plain_search.proofs.tails.add_longer_over.Given as goal

abbrev pub invariant-loop-tail : goal.invariant-loop-tail
invariant-loop-tail l = Adds (FromSome (IsLongerBy l.slack l.row l.ride) (take l.tail-index l.tails)) l.initial.longer.items l.longer.items
