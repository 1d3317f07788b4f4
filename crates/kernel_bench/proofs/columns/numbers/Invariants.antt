use Rattle.std.proofs.Common.{◌≡◌}
use Rattle.std.specs.List.{All}
use Rattle.std.specs.Vec.{vec_len}
use Rattle.lane_kernels.specs.Columns.{IsCoordinate}
use Rattle.kernel_bench.proofs.columns.numbers.Given as goal

abbrev pub invariant-loop : goal.invariant-loop
invariant-loop l = (vec_len l.column ≡ l.counter) × All IsCoordinate l.column.items
