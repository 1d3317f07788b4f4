use Rattle.std.proofs.Common.{take}
use Rattle.std.specs.List.{All}
use Rattle.lane_kernels.specs.Columns.{IsCoordinate}
use Rattle.lane_kernels.proofs.tests.are_coordinates.Given as goal

abbrev pub invariant-loop-place : goal.invariant-loop-place
invariant-loop-place l = All IsCoordinate (take l.place l.column)
