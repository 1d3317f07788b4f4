-- What a snapshot stands for.
use Rattle.std.specs.Prelude.{ℕ, List, map, slice_index}
use Rattle.std.specs.Arc.{arc_value}
use Rattle.std.specs.List.{flat_map}
use Rattle.otp_model.specs.declared.timetable.Run.{Run}
use Rattle.trip_patterns.specs.FirstFit.{rows_of}
use Rattle.trip_patterns.specs.Lanes.{LaneOf}
use Rattle.trip_patterns.specs.Shapes.{ShapeOf}
use Rattle.snapshot_store.specs.declared.snapshot.Snapshot.{Snapshot}

abbrev pub blocks_of : Snapshot → List (List LaneOf)
blocks_of snapshot = map arc_value snapshot.blocks.items

-- the runs of the schedule: the rows of all lanes
abbrev pub runs_of : Snapshot → List Run
runs_of snapshot = flat_map rows_of (blocks_of snapshot)

abbrev pub shapes_of : Snapshot → List ShapeOf
shapes_of snapshot = snapshot.shapes.items

-- the number of a block's shape
abbrev pub shape_at : Snapshot → ℕ → ℕ
shape_at snapshot block = slice_index snapshot.shape_of.items block
