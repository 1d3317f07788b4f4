use Rattle.std.proofs.lemmas.List.{get_or_default}
use Rattle.end_bounds.specs.Scans.{far}
use Rattle.end_bounds.proofs.TableLemmas.{writing_more}
use Rattle.end_bounds.proofs.table.write_column.Goals as goal

pub loop-row-preserved : goal.loop-row-preserved
loop-row-preserved c =
    writing_more c.args.columns c.args.column c.args.numbers.now c.args.table.now.items c.requires.column c.loop-row.row _ c.loop-row.table.items c.requires.size c.loop-row-test.true (get_or_default c.args.numbers.now c.loop-row.row 0 far c.loop-row-test.true) c.loop-row.invariant
