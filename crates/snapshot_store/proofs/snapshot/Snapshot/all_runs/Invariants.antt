use Rattle.std.proofs.Common.{◌≡◌, map, take}
use Rattle.std.specs.Arc.{arc_value}
use Rattle.std.specs.List.{flat_map}
use Rattle.trip_patterns.specs.FirstFit.{rows_of}
use Rattle.snapshot_store.proofs.snapshot.Snapshot.all_runs.Given as goal

abbrev pub invariant-loop-block : goal.invariant-loop-block
invariant-loop-block l = l.runs.items ≡ flat_map rows_of (map arc_value (take l.block-index l.self.blocks.items))
