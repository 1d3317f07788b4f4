use Rattle.std.proofs.Common.{Err}
use Rattle.std.proofs.lemmas.Result.{err_from_is_err_and}
use Rattle.gtfs_links.proofs.CheckFacts.{finds_whole, has_services}
use Rattle.gtfs_links.proofs.FaultFacts.{finds_first}
use Rattle.gtfs_links.proofs.check.check.Goals as goal

pub check_dates-requires-clause-known : goal.check_dates-requires-clause-known
check_dates-requires-clause-known c = rw (c.as_slice-7.ensures, c.requires.indexes.services) (has_services c.args.tables.now)

pub returns-in_err-check_rows : goal.returns-in_err-check_rows
returns-in_err-check_rows c =
    let p = err_from_is_err_and c.from_residual-in_err-check_rows.result c.from_residual-in_err-check_rows.ensures.1 in
    let n0 = rw c.as_slice.ensures at c.in_ok-check_agencies.ensures in
    let failed = rw c.as_slice-2.ensures at c.in_err-check_rows.ensures in
    rw (p.1, p.2) (finds_whole c.args.zone.now c.args.tables.now c.args.indexes.now c.requires.indexes {X = Unit {0}} (Err c.in_err-check_rows.field-0.0) (rw (n0) (finds_first c.in_err-check_rows.field-0.0 _ _ failed)))

pub returns-in_err-check_rows-2 : goal.returns-in_err-check_rows-2
returns-in_err-check_rows-2 c =
    let p = err_from_is_err_and c.from_residual-in_err-check_rows-2.result c.from_residual-in_err-check_rows-2.ensures.1 in
    let n0 = rw c.as_slice.ensures at c.in_ok-check_agencies.ensures in
    let n1 = rw c.as_slice-2.ensures at c.in_ok-check_rows.ensures in
    let failed = rw (c.new-routes.ensures.column, c.as_slice-3.ensures) at c.in_err-check_rows-2.ensures in
    rw (p.1, p.2) (finds_whole c.args.zone.now c.args.tables.now c.args.indexes.now c.requires.indexes {X = Unit {0}} (Err c.in_err-check_rows-2.field-0.0) (rw (n0, n1) (finds_first c.in_err-check_rows-2.field-0.0 _ _ failed)))

pub returns-in_err-check_rows-3 : goal.returns-in_err-check_rows-3
returns-in_err-check_rows-3 c =
    let p = err_from_is_err_and c.from_residual-in_err-check_rows-3.result c.from_residual-in_err-check_rows-3.ensures.1 in
    let n0 = rw c.as_slice.ensures at c.in_ok-check_agencies.ensures in
    let n1 = rw c.as_slice-2.ensures at c.in_ok-check_rows.ensures in
    let n2 = rw (c.new-routes.ensures.column, c.as_slice-3.ensures) at c.in_ok-check_rows-2.ensures in
    let failed = rw c.as_slice-4.ensures at c.in_err-check_rows-3.ensures in
    rw (p.1, p.2) (finds_whole c.args.zone.now c.args.tables.now c.args.indexes.now c.requires.indexes {X = Unit {0}} (Err c.in_err-check_rows-3.field-0.0) (rw (n0, n1, n2) (finds_first c.in_err-check_rows-3.field-0.0 _ _ failed)))

pub returns-in_err-check_stop_times : goal.returns-in_err-check_stop_times
returns-in_err-check_stop_times c =
    let p = err_from_is_err_and c.from_residual-in_err-check_stop_times.result c.from_residual-in_err-check_stop_times.ensures.1 in
    let n0 = rw c.as_slice.ensures at c.in_ok-check_agencies.ensures in
    let n1 = rw c.as_slice-2.ensures at c.in_ok-check_rows.ensures in
    let n2 = rw (c.new-routes.ensures.column, c.as_slice-3.ensures) at c.in_ok-check_rows-2.ensures in
    let n3 = rw c.as_slice-4.ensures at c.in_ok-check_rows-3.ensures in
    let failed = rw c.as_slice-5.ensures at c.in_err-check_stop_times.ensures in
    rw (p.1, p.2) (finds_whole c.args.zone.now c.args.tables.now c.args.indexes.now c.requires.indexes {X = Unit {0}} (Err c.in_err-check_stop_times.field-0.0) (rw (n0, n1, n2, n3) (finds_first c.in_err-check_stop_times.field-0.0 _ _ failed)))

pub returns-in_err-check_rows-4 : goal.returns-in_err-check_rows-4
returns-in_err-check_rows-4 c =
    let p = err_from_is_err_and c.from_residual-in_err-check_rows-4.result c.from_residual-in_err-check_rows-4.ensures.1 in
    let n0 = rw c.as_slice.ensures at c.in_ok-check_agencies.ensures in
    let n1 = rw c.as_slice-2.ensures at c.in_ok-check_rows.ensures in
    let n2 = rw (c.new-routes.ensures.column, c.as_slice-3.ensures) at c.in_ok-check_rows-2.ensures in
    let n3 = rw c.as_slice-4.ensures at c.in_ok-check_rows-3.ensures in
    let n4 = rw c.as_slice-5.ensures at c.in_ok-check_stop_times.ensures in
    let failed = rw (c.new-services.ensures.column, c.as_slice-6.ensures) at c.in_err-check_rows-4.ensures in
    rw (p.1, p.2) (finds_whole c.args.zone.now c.args.tables.now c.args.indexes.now c.requires.indexes {X = Unit {0}} (Err c.in_err-check_rows-4.field-0.0) (rw (n0, n1, n2, n3, n4) (finds_first c.in_err-check_rows-4.field-0.0 _ _ failed)))

pub returns-in_err-check_dates : goal.returns-in_err-check_dates
returns-in_err-check_dates c =
    let p = err_from_is_err_and c.from_residual-in_err-check_dates.result c.from_residual-in_err-check_dates.ensures.1 in
    let n0 = rw c.as_slice.ensures at c.in_ok-check_agencies.ensures in
    let n1 = rw c.as_slice-2.ensures at c.in_ok-check_rows.ensures in
    let n2 = rw (c.new-routes.ensures.column, c.as_slice-3.ensures) at c.in_ok-check_rows-2.ensures in
    let n3 = rw c.as_slice-4.ensures at c.in_ok-check_rows-3.ensures in
    let n4 = rw c.as_slice-5.ensures at c.in_ok-check_stop_times.ensures in
    let n5 = rw (c.new-services.ensures.column, c.as_slice-6.ensures) at c.in_ok-check_rows-4.ensures in
    let failed = rw c.as_slice-7.ensures at c.in_err-check_dates.ensures in
    rw (p.1, p.2) (finds_whole c.args.zone.now c.args.tables.now c.args.indexes.now c.requires.indexes {X = Unit {0}} (Err c.in_err-check_dates.field-0.0) (rw (n0, n1, n2, n3, n4, n5) (finds_first c.in_err-check_dates.field-0.0 _ _ failed)))

pub returns-in_err-check_rows-5 : goal.returns-in_err-check_rows-5
returns-in_err-check_rows-5 c =
    let p = err_from_is_err_and c.from_residual-in_err-check_rows-5.result c.from_residual-in_err-check_rows-5.ensures.1 in
    let n0 = rw c.as_slice.ensures at c.in_ok-check_agencies.ensures in
    let n1 = rw c.as_slice-2.ensures at c.in_ok-check_rows.ensures in
    let n2 = rw (c.new-routes.ensures.column, c.as_slice-3.ensures) at c.in_ok-check_rows-2.ensures in
    let n3 = rw c.as_slice-4.ensures at c.in_ok-check_rows-3.ensures in
    let n4 = rw c.as_slice-5.ensures at c.in_ok-check_stop_times.ensures in
    let n5 = rw (c.new-services.ensures.column, c.as_slice-6.ensures) at c.in_ok-check_rows-4.ensures in
    let n6 = rw c.as_slice-7.ensures at c.in_ok-check_dates.ensures in
    let failed = rw c.as_slice-8.ensures at c.in_err-check_rows-5.ensures in
    rw (p.1, p.2) (finds_whole c.args.zone.now c.args.tables.now c.args.indexes.now c.requires.indexes {X = Unit {0}} (Err c.in_err-check_rows-5.field-0.0) (rw (n0, n1, n2, n3, n4, n5, n6) (finds_first c.in_err-check_rows-5.field-0.0 _ _ failed)))

pub returns : goal.returns
returns c =
    let n0 = rw c.as_slice.ensures at c.in_ok-check_agencies.ensures in
    let n1 = rw c.as_slice-2.ensures at c.in_ok-check_rows.ensures in
    let n2 = rw (c.new-routes.ensures.column, c.as_slice-3.ensures) at c.in_ok-check_rows-2.ensures in
    let n3 = rw c.as_slice-4.ensures at c.in_ok-check_rows-3.ensures in
    let n4 = rw c.as_slice-5.ensures at c.in_ok-check_stop_times.ensures in
    let n5 = rw (c.new-services.ensures.column, c.as_slice-6.ensures) at c.in_ok-check_rows-4.ensures in
    let n6 = rw c.as_slice-7.ensures at c.in_ok-check_dates.ensures in
    let n7 = rw c.as_slice-8.ensures at c.in_ok-check_rows-5.ensures in
    let last = rw c.as_slice-9.ensures at c.check_frequencies.ensures in
    finds_whole c.args.zone.now c.args.tables.now c.args.indexes.now c.requires.indexes c.check_frequencies.result (rw (n0, n1, n2, n3, n4, n5, n6, n7) last)
