use Rattle.std.proofs.Common.{map}
use Rattle.std.specs.Arc.{arc_value}
use Rattle.snapshot_store.specs.Shaping.{AreShaped}
use Rattle.snapshot_store.proofs.shaping.shapes_of.Given as goal

abbrev pub invariant-loop-block : goal.invariant-loop-block
invariant-loop-block l = AreShaped (map arc_value l.blocks) l.numbers.items l.block-index l.shapes.items
