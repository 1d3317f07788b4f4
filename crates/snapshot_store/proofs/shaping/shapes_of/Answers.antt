use Rattle.std.proofs.Common.{◌≡◌, ◌<◌, ◌∙◌, List, [], length, map, sym, ap, subst, arith}
use Rattle.std.specs.Arc.{arc_value}
use Rattle.std.proofs.lemmas.List.{length-map}
use Rattle.trip_patterns.specs.Lanes.{LaneOf}
use Rattle.trip_patterns.specs.Timetables.{IsBlock}
use Rattle.snapshot_store.specs.Places.{block_pattern}
use Rattle.snapshot_store.proofs.RowLemmas.{block_read}
use Rattle.snapshot_store.proofs.ShapingLemmas.{have_shapes, of_pattern, shaped_more}
use Rattle.snapshot_store.proofs.shaping.shapes_of.Goals as goal

pub put_block-requires : goal.put_block-requires
put_block-requires c =
    let items = c.args.blocks.now in
    let n = c.loop-block.block-index in
    let less : n < length items = omega arith in
    let read = block_read arc_value items n c.block-item.result less c.block-item.is in
    let lanes : c.as_slice.result.now ≡ arc_value c.block-item.result = c.as_slice.ensures ∙ c.deref.ensures in
    let is : IsBlock c.as_slice.result.now
    = subst (λ (ls : List LaneOf). IsBlock ls) (sym (lanes ∙ read)) (c.requires n [] (omega (arith, less, length-map items arc_value))) in
    of_pattern c.pattern_of-pattern.result.now c.as_slice.result.now is (c.pattern_of-pattern.ensures ∙ ap block_pattern (sym lanes))

pub loop-block-preserved : goal.loop-block-preserved
loop-block-preserved c =
    let items = c.args.blocks.now in
    let n = c.loop-block.block-index in
    let less : n < length items = omega arith in
    let read = block_read arc_value items n c.block-item.result less c.block-item.is in
    let lanes : c.as_slice.result.now ≡ arc_value c.block-item.result = c.as_slice.ensures ∙ c.deref.ensures in
    shaped_more (map arc_value items) c.loop-block.numbers.items c.push.new.self.items n c.in_ok-put_block.field-0 c.pattern_of-pattern.result.now c.as_slice.result.now
    c.loop-block.shapes.items c.put_block.new.shapes.items c.loop-block.invariant c.requires (omega (arith, less, length-map items arc_value)) (lanes ∙ read)
    (c.pattern_of-pattern.ensures ∙ ap block_pattern (sym lanes)) c.in_ok-put_block.ensures c.in_ok-push.ensures.items

pub returns-clause-shapes : goal.returns-clause-shapes
returns-clause-shapes c =
    let items = c.args.blocks.now in
    have_shapes (map arc_value items) c.loop-block.numbers.items c.loop-block.block-index c.loop-block.shapes.items c.fits_its_shape.ensures c.requires
    (omega (arith, length-map items arc_value, c.loop-block.auto.block-index-end, c.loop-block-test.false)) c.loop-block.invariant
