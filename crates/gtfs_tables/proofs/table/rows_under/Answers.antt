use Rattle.std.proofs.lemmas.Result.{err_from_is_err_and}
use Rattle.std.proofs.lemmas.List.Elements.{All-push}
use Rattle.csv.specs.Records.{fields_of}
use Rattle.gtfs_records.specs.Table.{row_of}
use Rattle.gtfs_records.proofs.EachFacts.{fails, goes_on, is_done}
use Rattle.gtfs_tables.proofs.table.rows_under.Goals as goal

pub returns-then-not-branch-clause-rows : goal.returns-then-not-branch-clause-rows
returns-then-not-branch-clause-rows g c =
    let taken = rw c.if-not-branch.true at c.in_ok-next.ensures in
    is_done (row_of g.T.TableRow.kind.row_at c.args.places) c.loop-row.row c.loop-row.table _ (rw taken.0 at c.loop-row.invariant.so_far)

pub returns-in_err-read-clause-rows : goal.returns-in_err-read-clause-rows
returns-in_err-read-clause-rows g c =
    let p = err_from_is_err_and c.from_residual-in_err-read.result c.from_residual-in_err-read.ensures.1 in
    let taken = rw c.if-not-branch.false at c.in_ok-next.ensures in
    let so_far = rw taken at c.loop-row.invariant.so_far in
    let read = rw c.loop-row.invariant.same at c.in_err-read.ensures.row in
    rw (p.1, p.2) (fails c.in_err-read.field-0.0 (row_of g.T.TableRow.kind.row_at c.args.places) c.loop-row.row (fields_of c.next.new.row) c.next.new.self c.loop-row.table _ read so_far)

pub loop-row-preserved : goal.loop-row-preserved
loop-row-preserved g c =
    let inv = c.loop-row.invariant in
    let taken = rw c.if-not-branch.false at c.in_ok-next.ensures in
    let so_far = rw taken at inv.so_far in
    let read = rw inv.same at c.in_ok-read.ensures.row in
    record {
      same = inv.same;
      are_read = rw c.in_ok-push.ensures.ok (All-push g.T.TableRow.is_read c.loop-row.table c.in_ok-read.field-0 inv.are_read c.in_ok-read.ensures.is_read);
      so_far = rw c.in_ok-push.ensures.ok (goes_on (row_of g.T.TableRow.kind.row_at c.args.places) c.loop-row.row (fields_of c.next.new.row) c.next.new.self c.in_ok-read.field-0 c.loop-row.table _ read so_far);
    }
