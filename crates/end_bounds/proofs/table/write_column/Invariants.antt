use Rattle.end_bounds.specs.Tables.{IsWriting}
use Rattle.end_bounds.proofs.table.write_column.Given as goal

abbrev pub invariant-loop-row : goal.invariant-loop-row
invariant-loop-row l = IsWriting l.columns l.column l.row l.numbers l.initial.table.items l.table.items
