use Rattle.std.proofs.Common.{◌<◌}
use Rattle.std.specs.List.{All}
use Rattle.std.proofs.lemmas.List.{take_all}
use Rattle.std.proofs.lemmas.List.Sorted.{All-permutation}
use Rattle.gtfs_links.specs.declared.feed.HeadwayRow.{HeadwayRow}
use Rattle.feed_load.proofs.JoinLemmas.{joined_any_order, joined_more, joined_none}
use Rattle.feed_load.proofs.joins.join_rows.Goals as goal

pub loop-row-init : goal.loop-row-init
loop-row-init c = rw c.new-joined.ensures.items joined_none

pub join_row-requires : goal.join_row-requires
join_row-requires c =
    let all = All-permutation (λ (row : HeadwayRow). 0 < row.headway) c.args.rows.items c.sort_by_step.new.rows.items c.in_ok-sort_by_step.ensures c.requires in
    let each : All (λ (row : HeadwayRow). 0 < row.headway) c.deref-row-items.result.now = rw c.deref-row-items.ensures.value all in
    each c.loop-row.row-index _ c.loop-row-test.true

pub loop-row-preserved : goal.loop-row-preserved
loop-row-preserved c =
    let made = c.in_ok-join_row.ensures in
    joined_more c.deref-row-items.result.now c.loop-row.joined.items c.join_row.new.joined.items c.loop-row.row-index _ c.loop-row-test.true c.loop-row.invariant made.starts made.some made.headways

pub returns : goal.returns
returns c =
    let all = rw (take_all c.loop-row.row-index c.deref-row-items.result.now c.loop-row-test.false, c.deref-row-items.ensures.value) at c.loop-row.invariant in
    joined_any_order c.args.rows.items c.sort_by_step.new.rows.items c.loop-row.joined.items c.in_ok-sort_by_step.ensures all
