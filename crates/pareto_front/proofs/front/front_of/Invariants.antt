use Rattle.pareto_front.proofs.FrontLemmas.{IsFrontSoFar}
use Rattle.pareto_front.proofs.front.front_of.Given as goal

-- the list is the front of what was gone through
abbrev pub invariant-loop-offer : goal.invariant-loop-offer
invariant-loop-offer l = IsFrontSoFar l.values.items l.yielded l.list.items
