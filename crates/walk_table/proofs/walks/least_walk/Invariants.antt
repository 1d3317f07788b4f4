use Rattle.std.proofs.Common.{take}
use Rattle.walk_table.specs.Walks.{IsLeastWalk}
use Rattle.walk_table.proofs.walks.least_walk.Given as goal

abbrev pub invariant-loop-p : goal.invariant-loop-p
invariant-loop-p l = IsLeastWalk l.profile (take l.p-index l.points) l.q l.least
