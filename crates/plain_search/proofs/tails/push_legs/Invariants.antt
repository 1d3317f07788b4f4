use Rattle.std.proofs.Common.{◌≡◌, ◌++◌, take}
use Rattle.plain_search.proofs.tails.push_legs.Given as goal

abbrev pub invariant-loop-leg : goal.invariant-loop-leg
invariant-loop-leg l = l.legs.items ≡ l.initial.legs.items ++ take l.leg-index l.more
