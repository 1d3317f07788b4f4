use Rattle.std.proofs.Common.{take}
use Rattle.otp_base.specs.Adds.{Adds, FromSome}
use Rattle.plain_search.specs.Tails.{IsLonger}
use Rattle.plain_search.proofs.tails.add_longer_by.Given as goal

abbrev pub invariant-loop-edge : goal.invariant-loop-edge
invariant-loop-edge l = Adds (FromSome (IsLonger l.slack l.ride l.tail) (take l.edge-index l.row)) l.initial.longer.items l.longer.items
