use Rattle.std.proofs.Common.{◌≡◌, ◌++◌, List, take}
use Rattle.otp_model.specs.declared.timetable.Run.{Run}
use Rattle.trip_patterns.specs.FirstFit.{rows_of}
use Rattle.trip_patterns.specs.Shapes.{IsShapeOf}
use Rattle.snapshot_store.proofs.shaping.lower.Given as goal

abbrev pub invariant-loop-lane : goal.invariant-loop-lane
invariant-loop-lane l = record {
  pattern : l.shape.pattern ≡ l.initial.shape.pattern;
  joined : (runs : List Run) → IsShapeOf l.initial.shape.pattern runs l.initial.shape
      → IsShapeOf l.initial.shape.pattern (runs ++ rows_of (take l.lane-index l.lanes)) l.shape;
}
