use Rattle.std.proofs.Common.{arith, ◌-◌, ◌+◌, ◌≡◌, subst, ℕ}
use Rattle.end_bounds.specs.Points.{IsPointing}
use Rattle.end_bounds.proofs.PointLemmas.{pointing_more}
use Rattle.end_bounds.proofs.points.point_shape.Goals as goal

pub loop-position-preserved : goal.loop-position-preserved
loop-position-preserved c =
    let position = c.loop-position.position - 1 in
    let same : c.loop-position.position ≡ position + 1 = omega (arith, c.loop-position-test.true) in
    pointing_more c.args.now.now c.args.shape.now position c.spot-spot.result c.loop-position.best c.points_at-best.result c.args.ready.now.items c.loop-position.ready.items c.lower.new.ready.items
    c.spot-spot.ensures c.points_at-best.ensures.most c.points_at-best.ensures.alight c.lower.ensures.size c.lower.ensures.lowered c.lower.ensures.boards
    (subst (λ (k : ℕ). IsPointing c.args.now.now c.args.shape.now k c.loop-position.best c.args.ready.now.items c.loop-position.ready.items) same c.loop-position.invariant)
