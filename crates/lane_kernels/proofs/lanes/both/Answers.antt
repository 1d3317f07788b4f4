use Rattle.std.proofs.Common.{◌&&◌}
use Rattle.std.specs.Int.Bits.{bit_and}
use Rattle.lane_kernels.proofs.Vectors.{masked, and_flags}
use Rattle.lane_kernels.proofs.lanes.both.Goals as goal

pub returns : goal.returns
returns g c = λ p q e h. masked bit_and (λ a b. a && b) and_flags g.row.N c.args.a c.args.b p q e h
