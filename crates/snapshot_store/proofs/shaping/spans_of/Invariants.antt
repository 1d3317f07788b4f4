use Rattle.std.proofs.Common.{◌≡◌, ℕ, List, length, map, Some}
use Rattle.std.specs.Arc.{arc_value}
use Rattle.std.specs.List.{slice_get}
use Rattle.trip_patterns.specs.declared.span.Span.{Span}
use Rattle.trip_patterns.specs.Lanes.{LaneOf}
use Rattle.trip_patterns.specs.Spans.{IsSpanOf}
use Rattle.snapshot_store.proofs.shaping.spans_of.Given as goal

abbrev pub invariant-loop-block : goal.invariant-loop-block
invariant-loop-block l = record {
  count : length l.spans.items ≡ l.block-index;
  each : (block : ℕ) (lanes : List LaneOf) (span : Span) → slice_get (map arc_value l.blocks) block ≡ Some lanes → slice_get l.spans.items block ≡ Some span → IsSpanOf lanes span;
}
