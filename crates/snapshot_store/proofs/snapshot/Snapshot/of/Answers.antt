use Rattle.std.proofs.Common.{length, map, slice_index, sym, ap, subst, ◌∙◌}
use Rattle.std.specs.Arc.{arc_value}
use Rattle.std.specs.List.{All}
use Rattle.std.proofs.lemmas.List.Sorted.{All-permutation}
use Rattle.trip_patterns.specs.Shapes.{HaveShapes}
use Rattle.trip_patterns.specs.Timetables.{IsBlock}
use Rattle.snapshot_store.specs.Places.{IsIndex}
use Rattle.snapshot_store.specs.Shaping.{AreSpans}
use Rattle.snapshot_store.proofs.snapshot.Snapshot.of.Goals as goal

pub shapes_of-requires : goal.shapes_of-requires
shapes_of-requires c =
    subst (λ xs. All IsBlock (map arc_value xs)) (sym c.deref-3.ensures.value)
    (All-permutation IsBlock (map arc_value c.args.blocks.items) (map arc_value c.sort_blocks.new.blocks.items) c.sort_blocks.ensures.moved c.requires)

pub invariant_of-result : goal.invariant_of-result
invariant_of-result c = record {
  blocks_are = All-permutation IsBlock (map arc_value c.args.blocks.items) (map arc_value c.sort_blocks.new.blocks.items) c.sort_blocks.ensures.moved c.requires;
  in_order = c.in_ok-sort_blocks.ensures.sorted;
  indexed = subst (λ xs. IsIndex (map arc_value xs) c.in_ok-places.places.items) c.deref.ensures.value c.in_ok-places.ensures;
  shaped = subst (λ xs. HaveShapes (map arc_value xs) c.in_ok-made.made.shapes.items (slice_index c.in_ok-made.made.numbers.items)) c.deref-3.ensures.value c.in_ok-made.ensures.shapes;
  numbered = c.in_ok-made.ensures.count ∙ ap length c.deref-3.ensures.value;
  spanned = subst (λ xs. AreSpans (map arc_value xs) c.in_ok-spans.spans.items) c.deref-2.ensures.value c.in_ok-spans.ensures;
}
