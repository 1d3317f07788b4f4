use Rattle.std.proofs.Common.{length, map}
use Rattle.std.specs.Arc.{arc_value}
use Rattle.snapshot_store.proofs.BlockLemmas.{AreDone}
use Rattle.snapshot_store.proofs.grouping.blocks_in_order.Given as goal

abbrev pub invariant-loop-rest : goal.invariant-loop-rest
invariant-loop-rest g l = AreDone l.runs l.rest (map arc_value l.blocks.items) l.initial.steps l.steps

abbrev pub decreases-loop-rest : goal.decreases-loop-rest
decreases-loop-rest g l = length l.rest
