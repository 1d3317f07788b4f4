use Rattle.std.proofs.Common.{take}
use Rattle.otp_base.specs.Adds.{Adds, FromSome}
use Rattle.raptor_rounds.specs.Labels.{IsFinalBy}
use Rattle.raptor_rounds.proofs.offer.push_finals.Given as goal

abbrev pub invariant-loop-reach : goal.invariant-loop-reach
invariant-loop-reach l = Adds (FromSome (IsFinalBy l.request l.number l.node) (take l.reach-index l.egress)) l.initial.finals.items l.finals.items
