use Rattle.std.proofs.Common.{◌≡◌, ◌+◌, ◌++◌, take}
use Rattle.std.specs.Vec.{vec_capacity, vec_len}
use Rattle.trip_patterns.specs.Rows.{column}
use Rattle.trip_patterns.proofs.columns.put_column.Given as goal

abbrev pub invariant-loop-row : goal.invariant-loop-row
invariant-loop-row l = record {
  written : l.written.items ≡ l.initial.written.items ++ column (take l.row-index l.rows) l.position;
  len : vec_len l.written ≡ vec_len l.initial.written + l.row-index;
  capacity : vec_capacity l.written ≡ vec_capacity l.initial.written;
}
