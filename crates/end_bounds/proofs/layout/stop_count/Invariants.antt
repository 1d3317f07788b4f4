use Rattle.std.proofs.Common.{◌≡◌, ◌<◌, ◌≤◌, ℕ, Some, length}
use Rattle.std.specs.List.{slice_get}
use Rattle.trip_patterns.specs.Shapes.{ShapeOf}
use Rattle.end_bounds.specs.Scans.{AreStopsBelow}
use Rattle.end_bounds.proofs.layout.stop_count.Given as goal

abbrev pub invariant-loop-n : goal.invariant-loop-n
invariant-loop-n g l = record {
  stops : length l.edges.stops ≤ l.count;
  from : length l.edges.from ≤ l.count;
  below : (k : ℕ) (shape : ShapeOf) → k < l.n → slice_get (g.T.Timetable.shapes l.timetable) k ≡ Some shape → AreStopsBelow l.count shape;
}
