use Rattle.std.proofs.Common.{length, arith}
use Rattle.trip_patterns.proofs.ColumnLemmas.{columns_more, times_more}
use Rattle.trip_patterns.proofs.columns.with_columns.Goals as goal

pub loop-position-preserved : goal.loop-position-preserved
loop-position-preserved c =
    let rows = c.args.rows.now in
    let n = c.loop-position.position in
    record {
      written = columns_more rows n _ _ c.loop-position.invariant.written c.put_column.ensures.written;
      len = omega (arith, times_more n (length rows));
      capacity = omega arith;
    }
