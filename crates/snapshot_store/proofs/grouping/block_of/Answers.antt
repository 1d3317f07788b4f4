use Rattle.std.proofs.Common.{sym, ◌∙◌, subst}
use Rattle.snapshot_store.specs.Grouping.{IsBlockOf}
use Rattle.snapshot_store.proofs.BlockLemmas.{block_of_lanes}
use Rattle.snapshot_store.proofs.grouping.block_of.Goals as goal

pub returns-clause-block : goal.returns-clause-block
returns-clause-block g c =
    subst (IsBlockOf c.args.runs.now) (sym (c.in_ok-new.ensures.ok ∙ c.from_vec.ensures))
    (block_of_lanes c.args.runs.now c.in_ok-lanes.lanes.items c.requires.some c.in_ok-lanes.ensures.lanes)
