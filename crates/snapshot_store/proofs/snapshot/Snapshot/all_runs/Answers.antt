use Rattle.std.proofs.Common.{◌≡◌, ◌<◌, List, [], ◌++◌, length, get_or, sym, ap, subst, ◌∙◌, arith}
use Rattle.std.specs.Arc.{arc_value}
use Rattle.std.specs.List.{All}
use Rattle.std.proofs.lemmas.List.{length-map}
use Rattle.otp_model.specs.declared.change.Change.{Change}
use Rattle.trip_patterns.specs.FirstFit.{rows_of}
use Rattle.trip_patterns.specs.Lanes.{IsLane, LaneOf}
use Rattle.snapshot_store.specs.Changing.{kept}
use Rattle.snapshot_store.specs.Snapshots.{blocks_of}
use Rattle.snapshot_store.proofs.RowLemmas.{block_more, block_read}
use Rattle.snapshot_store.proofs.snapshot.Snapshot.all_runs.Goals as goal

pub put_kept-requires : goal.put_kept-requires
put_kept-requires c =
    let items = c.args.self.now.blocks.items in
    let n = c.loop-block.block-index in
    let less : n < length items = subst (λ xs. n < length xs) c.deref-block-items.ensures.value c.loop-block-test.true in
    let read : c.block-item.result ≡ get_or items n c.block-item.result = c.block-item.is ∙ ap (λ xs. get_or xs n c.block-item.result) c.deref-block-items.ensures.value in
    let lanes : c.as_slice.result.now ≡ get_or (blocks_of c.args.self.now) n [] = c.as_slice.ensures ∙ c.deref.ensures ∙ block_read arc_value items n c.block-item.result less read in
    subst (λ (ls : List LaneOf). All IsLane ls) (sym lanes) (c.args.self.now.blocks_are n [] (omega (arith, less, length-map items arc_value))).lanes_are

pub loop-block-preserved : goal.loop-block-preserved
loop-block-preserved c =
    let items = c.args.self.now.blocks.items in
    let n = c.loop-block.block-index in
    let less : n < length items = subst (λ xs. n < length xs) c.deref-block-items.ensures.value c.loop-block-test.true in
    let read : c.block-item.result ≡ get_or items n c.block-item.result = c.block-item.is ∙ ap (λ xs. get_or xs n c.block-item.result) c.deref-block-items.ensures.value in
    block_more arc_value items n c.block-item.result c.as_slice.result.now c.loop-block.runs.items c.put_kept.new.runs.items less read (c.as_slice.ensures ∙ c.deref.ensures)
    c.loop-block.invariant
    (c.in_ok-put_kept.ensures ∙ ap (λ (none : List Change). c.loop-block.runs.items ++ kept none (rows_of c.as_slice.result.now)) c.in_ok-none.ensures)
