use Rattle.std.proofs.Common.{◌||◌}
use Rattle.std.specs.Int.Bits.{bit_or}
use Rattle.lane_kernels.proofs.Vectors.{masked, or_flags}
use Rattle.lane_kernels.proofs.lanes.either.Goals as goal

pub returns : goal.returns
returns g c = λ p q e h. masked bit_or (λ a b. a || b) or_flags g.row.N c.args.a c.args.b p q e h
