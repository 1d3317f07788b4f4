use Rattle.std.proofs.Common.{◌≡◌, ◌*◌, length}
use Rattle.std.specs.Vec.{vec_capacity, vec_len}
use Rattle.trip_patterns.specs.Rows.{columns}
use Rattle.trip_patterns.proofs.columns.with_columns.Given as goal

abbrev pub invariant-loop-position : goal.invariant-loop-position
invariant-loop-position l = record {
  written : l.written.items ≡ columns l.position l.rows;
  len : vec_len l.written ≡ l.position * length l.rows;
  capacity : vec_capacity l.written ≡ vec_capacity l.initial.written;
}
