use Rattle.std.proofs.Common.{take}
use Rattle.snapshot_store.specs.Marks.{AreMarked}
use Rattle.snapshot_store.proofs.changed.marks_of.Given as goal

abbrev pub invariant-loop-change : goal.invariant-loop-change
invariant-loop-change l = AreMarked (take l.change-index l.changes) l.marks.items
