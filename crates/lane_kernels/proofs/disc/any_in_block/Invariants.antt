use Rattle.std.proofs.Common.{◌+◌, ◌*◌}
use Rattle.lane_kernels.specs.Lanes.{NoneWithin, is_between}
use Rattle.lane_kernels.proofs.disc.any_in_block.Given as goal

abbrev pub invariant-loop-group : goal.invariant-loop-group
invariant-loop-group l = NoneWithin (is_between l.column l.low l.high) l.at (l.at + 8 * l.group)
