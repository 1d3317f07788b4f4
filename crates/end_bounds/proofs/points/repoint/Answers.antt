use Rattle.end_bounds.proofs.PointLemmas.{repointed_more}
use Rattle.end_bounds.proofs.points.repoint.Goals as goal

pub loop-n-preserved : goal.loop-n-preserved
loop-n-preserved g c =
    repointed_more c.args.before.now c.args.now.now (g.T.Timetable.shapes c.args.timetable.now) c.loop-n.n c.shape.result.now c.args.ready.now.items c.loop-n.ready.items c.repoint_shape.new.ready.items
    c.shape.ensures c.repoint_shape.ensures.size c.repoint_shape.ensures.lowered c.repoint_shape.ensures.pointed c.loop-n.invariant
