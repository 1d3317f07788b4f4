use Rattle.std.proofs.Common.{map}
use Rattle.std.specs.Arc.{arc_value}
use Rattle.snapshot_store.proofs.RenewLemmas.{AreRenewed}
use Rattle.snapshot_store.proofs.renewing.renewed_blocks.Given as goal

abbrev pub invariant-loop-block : goal.invariant-loop-block
invariant-loop-block g l = AreRenewed l.changes (map arc_value l.blocks) l.block-index l.added l.rest (map arc_value l.made.items) l.initial.steps l.steps
