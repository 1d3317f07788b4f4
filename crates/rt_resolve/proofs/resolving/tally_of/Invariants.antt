use Rattle.std.proofs.Common.{[], take}
use Rattle.otp_model.specs.Resolution.{judged_from}
use Rattle.rt_resolve.specs.Tallies.{Tallies}
use Rattle.rt_resolve.proofs.resolving.tally_of.Given as goal

abbrev pub invariant-loop-entity : goal.invariant-loop-entity
invariant-loop-entity l = Tallies (judged_from l.lookup l.message.timestamp [] (take l.entity-index l.message.entities)) l.tally
