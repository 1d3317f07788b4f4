use Rattle.end_bounds.proofs.PointLemmas.{unchanged_pointed}
use Rattle.end_bounds.proofs.points.repoint_shape.Goals as goal

pub returns-then-is_unchanged-clause-pointed : goal.returns-then-is_unchanged-clause-pointed
returns-then-is_unchanged-clause-pointed c = unchanged_pointed c.args.before.now c.args.now.now c.args.shape.now c.args.ready.now.items (c.is_unchanged.ensures c.if-is_unchanged.true) c.requires.pointed
