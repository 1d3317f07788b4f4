use Rattle.std.proofs.Common.{take}
use Rattle.feed_load.specs.Joins.{AreJoined}
use Rattle.feed_load.proofs.joins.join_rows.Given as goal

abbrev pub invariant-loop-row : goal.invariant-loop-row
invariant-loop-row l = AreJoined (take l.row-index l.row-items) l.joined.items
