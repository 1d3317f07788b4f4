use Rattle.std.proofs.Common.{arith}
use Rattle.walk_table.specs.Rows.{IsMinimum}
use Rattle.walk_table.proofs.RowLemmas.{greatest_all, greatest_more}
use Rattle.walk_table.proofs.rows.greatest_minimum.Goals as goal

pub loop-row-preserved : goal.loop-row-preserved
loop-row-preserved c =
    greatest_more (IsMinimum c.args.stops.now c.args.at.now.number c.args.at.now.stop.now) c.args.rows.now c.loop-row.row-index _ c.loop-row.greatest c.minimum_to.result c.max-greatest.result (omega arith) c.loop-row.invariant c.minimum_to.ensures c.max-greatest.ensures

pub returns : goal.returns
returns c = greatest_all (IsMinimum c.args.stops.now c.args.at.now.number c.args.at.now.stop.now) c.args.rows.now c.loop-row.row-index c.loop-row.greatest (omega arith) c.loop-row.invariant
