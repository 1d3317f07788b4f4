use Rattle.std.proofs.Common.{arith, ◌+◌, sym}
use Rattle.end_bounds.proofs.TableLemmas.{row_past}
use Rattle.end_bounds.proofs.table.row_behind.Goals as goal

pub returns-then-start-table : goal.returns-then-start-table
returns-then-start-table c = sym (row_past c.args.columns c.args.table.now (c.args.start + c.args.behind) (omega (arith, c.if-start-table.true)))

pub returns-then-behind-table : goal.returns-then-behind-table
returns-then-behind-table c = sym (row_past c.args.columns c.args.table.now (c.args.start + c.args.behind) (omega (arith, c.if-behind-table.true)))
