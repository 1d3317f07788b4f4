use Rattle.lane_kernels.proofs.Vectors.{at_most_lanes}
use Rattle.lane_kernels.proofs.lanes.at_most.Goals as goal

pub returns : goal.returns
returns g c = λ f e each. at_most_lanes g.row.N c.args.limit c.args.vector f c.ranges.limit e each
