use Rattle.std.proofs.Common.{◌+◌, ◌<◌, ◌∙◌, [], length, map, subst, sym, arith}
use Rattle.std.specs.Arc.{arc_value}
use Rattle.std.proofs.lemmas.List.{length-map}
use Rattle.trip_patterns.specs.Timetables.{IsBlock}
use Rattle.snapshot_store.specs.Order.{is_before, is_of_lanes}
use Rattle.snapshot_store.proofs.RenewLemmas.{AreRenewed, counted_block, counted_most, counted_put, none_behind, none_renewed, prefix_within, renewed_block, renewed_put, renewed_whole, turn, two_parts}
use Rattle.snapshot_store.proofs.RowLemmas.{block_read}
use Rattle.snapshot_store.proofs.renewing.renewed_blocks.Goals as goal

pub loop-block-init : goal.loop-block-init
loop-block-init g c =
    let blocks = map arc_value c.args.blocks.now in
    subst (λ xs. AreRenewed c.args.changes.now blocks 0 c.args.added.now c.args.added.now (map arc_value xs) c.args.steps.now c.args.steps.now) (sym c.in_ok-made.ensures.items)
    (none_renewed c.args.changes.now blocks c.args.added.now c.args.steps.now)

pub split_at-requires : goal.split_at-requires
split_at-requires g c = prefix_within (is_before c.as_slice-lanes.result.now) c.loop-block.rest.now c.count_before.result c.count_before.ensures

pub returns-in_err-put_blocks-clause-most : goal.returns-in_err-put_blocks-clause-most
returns-in_err-put_blocks-clause-most g c =
    let rest = c.loop-block.rest.now in
    let new = c.split_at.result.0.now in
    let others = c.split_at.result.1.now in
    counted_most c.args.changes.now (map arc_value c.args.blocks.now) c.loop-block.block-index c.args.added.now others c.args.steps.now c.put_blocks.new.steps c.requires.added
    (counted_put c.args.changes.now (map arc_value c.args.blocks.now) c.loop-block.block-index c.args.added.now rest new others c.args.steps.now c.loop-block.steps c.put_blocks.new.steps
    c.loop-block.invariant.counts (two_parts c.count_before.result rest new others c.split_at.ensures.front c.split_at.ensures.back) c.put_blocks.ensures.most)

pub split_at-requires-in-loop-block : goal.split_at-requires-in-loop-block
split_at-requires-in-loop-block g c = prefix_within (is_of_lanes c.as_slice-lanes.result.now) c.split_at.result.1.now c.count_of.result c.count_of.ensures

pub renew_block-requires : goal.renew_block-requires
renew_block-requires g c =
    let n = c.loop-block.block-index in
    let less : n < length c.args.blocks.now = omega arith in
    subst IsBlock (sym (block_read arc_value c.args.blocks.now n c.block-item.result less c.block-item.is))
    (c.requires.blocks n [] (omega (arith, less, length-map c.args.blocks.now arc_value)))

pub returns-in_err-renew_block-clause-most : goal.returns-in_err-renew_block-clause-most
returns-in_err-renew_block-clause-most g c =
    let is =
    turn arc_value c.args.blocks.now c.loop-block.block-index c.block-item.result c.as_slice-lanes.result.now c.loop-block.rest.now c.split_at.result.0.now c.split_at.result.1.now
    c.split_at-in-loop-block.result.0.now c.split_at-in-loop-block.result.1.now c.count_before.result c.count_of.result c.requires.blocks (omega arith) c.block-item.is
    (c.as_slice-lanes.ensures ∙ c.deref.ensures) c.split_at.ensures.front c.split_at.ensures.back c.split_at-in-loop-block.ensures.front c.split_at-in-loop-block.ensures.back
    c.count_of.ensures in
    counted_most c.args.changes.now (map arc_value c.args.blocks.now) (c.loop-block.block-index + 1) c.args.added.now c.split_at-in-loop-block.result.1.now c.args.steps.now
    c.renew_block.new.steps c.requires.added
    (counted_block c.args.changes.now (map arc_value c.args.blocks.now) c.loop-block.block-index (arc_value c.block-item.result) c.args.added.now c.loop-block.rest.now
    c.split_at.result.0.now c.split_at-in-loop-block.result.0.now c.split_at-in-loop-block.result.1.now c.args.steps.now c.loop-block.steps c.put_blocks.new.steps c.renew_block.new.steps
    c.requires.added is c.put_blocks.ensures.most c.renew_block.ensures.most
    c.loop-block.invariant.counts)

pub loop-block-preserved : goal.loop-block-preserved
loop-block-preserved g c =
    let is =
    turn arc_value c.args.blocks.now c.loop-block.block-index c.block-item.result c.as_slice-lanes.result.now c.loop-block.rest.now c.split_at.result.0.now c.split_at.result.1.now
    c.split_at-in-loop-block.result.0.now c.split_at-in-loop-block.result.1.now c.count_before.result c.count_of.result c.requires.blocks (omega arith) c.block-item.is
    (c.as_slice-lanes.ensures ∙ c.deref.ensures) c.split_at.ensures.front c.split_at.ensures.back c.split_at-in-loop-block.ensures.front c.split_at-in-loop-block.ensures.back
    c.count_of.ensures in
    renewed_block c.args.changes.now (map arc_value c.args.blocks.now) c.loop-block.block-index (arc_value c.block-item.result) c.args.added.now c.loop-block.rest.now
    c.split_at.result.0.now c.split_at-in-loop-block.result.0.now c.split_at-in-loop-block.result.1.now c.args.steps.now c.loop-block.steps c.put_blocks.new.steps c.renew_block.new.steps
    c.requires.added is c.put_blocks.ensures.most c.renew_block.ensures.most
    (map arc_value c.loop-block.made.items) (map arc_value c.put_blocks.new.made.items) (map arc_value c.renew_block.new.made.items) c.loop-block.invariant c.in_ok-put_blocks.ensures.added
    c.in_ok-renew_block.ensures.added

pub returns-in_err-put_blocks-2-clause-most : goal.returns-in_err-put_blocks-2-clause-most
returns-in_err-put_blocks-2-clause-most g c =
    let rest = c.loop-block.rest.now in
    counted_most c.args.changes.now (map arc_value c.args.blocks.now) c.loop-block.block-index c.args.added.now [] c.args.steps.now c.put_blocks-2.new.steps c.requires.added
    (counted_put c.args.changes.now (map arc_value c.args.blocks.now) c.loop-block.block-index c.args.added.now rest rest [] c.args.steps.now c.loop-block.steps c.put_blocks-2.new.steps
    c.loop-block.invariant.counts (none_behind rest) c.put_blocks-2.ensures.most)

pub returns-clause-stands : goal.returns-clause-stands
returns-clause-stands g c =
    let blocks = map arc_value c.args.blocks.now in
    let n = c.loop-block.block-index in
    let rest = c.loop-block.rest.now in
    let made = map arc_value c.put_blocks-2.new.made.items in
    renewed_whole c.args.changes.now blocks n c.args.added.now made c.args.steps.now c.put_blocks-2.new.steps c.requires.added
    (omega (arith, length-map c.args.blocks.now arc_value, c.loop-block-test.false))
    (renewed_put c.args.changes.now blocks n c.args.added.now rest rest [] (map arc_value c.loop-block.made.items) made c.args.steps.now c.loop-block.steps c.put_blocks-2.new.steps
    c.loop-block.invariant (none_behind rest) c.in_ok-put_blocks-2.ensures.added c.put_blocks-2.ensures.most)

pub returns-clause-most : goal.returns-clause-most
returns-clause-most g c =
    let rest = c.loop-block.rest.now in
    counted_most c.args.changes.now (map arc_value c.args.blocks.now) c.loop-block.block-index c.args.added.now [] c.args.steps.now c.put_blocks-2.new.steps c.requires.added
    (counted_put c.args.changes.now (map arc_value c.args.blocks.now) c.loop-block.block-index c.args.added.now rest rest [] c.args.steps.now c.loop-block.steps c.put_blocks-2.new.steps
    c.loop-block.invariant.counts (none_behind rest) c.put_blocks-2.ensures.most)
