use Rattle.lane_kernels.proofs.Vectors.{above_lanes}
use Rattle.lane_kernels.proofs.lanes.above.Goals as goal

pub returns : goal.returns
returns g c = λ f e each. above_lanes g.row.N c.args.limit c.args.vector f c.ranges.limit e each
