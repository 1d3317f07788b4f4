use Rattle.std.proofs.Common.{Bor, List, ℕ, map}
use Rattle.std.proofs.lemmas.List.{drop_all, length-map}
use Rattle.std.proofs.lemmas.Result.{err_from_is_err_and}
use Rattle.csv.specs.Records.{fields_of}
use Rattle.gtfs_records.specs.Table.{column_at}
use Rattle.gtfs_records.proofs.HeaderFacts.{drop-map_now}
use Rattle.gtfs_records.proofs.EachFacts.{fails, goes_on, is_done}
use Rattle.gtfs_tables.proofs.table.places_of.Goals as goal

pub returns-in_err-place : goal.returns-in_err-place
returns-in_err-place g c =
    let p = err_from_is_err_and c.from_residual.result c.from_residual.ensures.1 in
    let read = rw c.needed_columns-needed.ensures at c.in_err-place.ensures in
    let cut = drop-map_now c.columns-names.result.now c.loop-column.column _ c.loop-column-test.true in
    let so_far = rw (← c.columns-names.ensures, cut) at c.loop-column.invariant in
    rw (p.1, p.2, ← c.columns-names.ensures) (fails c.in_err-place.field-0.0 _ _ _ _ _ _ read so_far)

pub loop-column-preserved : goal.loop-column-preserved
loop-column-preserved g c =
    let read = rw c.needed_columns-needed.ensures at c.in_ok-place.ensures in
    let cut = drop-map_now c.columns-names.result.now c.loop-column.column _ c.loop-column-test.true in
    let so_far = rw (← c.columns-names.ensures, cut) at c.loop-column.invariant in
    rw (c.in_ok-push.ensures.ok, ← c.columns-names.ensures) (goes_on _ _ _ _ _ _ _ read so_far)

pub returns : goal.returns
returns g c =
    let f = column_at g.T.TableRow.kind.needed (fields_of c.args.header.now) in
    let none = drop_all c.loop-column.column (map (λ (s : Bor (List ℕ)). s.now) c.columns-names.result.now) (rw length-map c.loop-column-test.false) in
    let so_far = rw (← c.columns-names.ensures, none) at c.loop-column.invariant in
    rw (← c.columns-names.ensures) (is_done f c.loop-column.column c.loop-column.places _ so_far)
