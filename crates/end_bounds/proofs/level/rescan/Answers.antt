use Rattle.std.proofs.Common.{length}
use Rattle.end_bounds.proofs.LevelLemmas.{renewed_more, still_here}
use Rattle.end_bounds.proofs.level.rescan.Goals as goal

pub rescan_shape-requires-clause-scanned : goal.rescan_shape-requires-clause-scanned
rescan_shape-requires-clause-scanned g c =
    still_here c.args.now.now (g.T.Timetable.shapes c.args.timetable.now) c.args.bases.now (length c.args.place.now.items) c.loop-n.n c.shape.result.now c.requires.laid c.shape.ensures
    c.args.before.now c.args.ready.now.items c.loop-n.ready.items c.args.place.now.items c.loop-n.place.items c.requires.scanned c.loop-n.invariant

pub loop-n-preserved : goal.loop-n-preserved
loop-n-preserved g c =
    renewed_more c.args.now.now (g.T.Timetable.shapes c.args.timetable.now) c.args.bases.now (length c.args.place.now.items) c.loop-n.n c.shape.result.now c.requires.laid c.shape.ensures
    c.args.ready.now.items c.loop-n.ready.items c.rescan_shape.new.ready.items c.args.place.now.items c.loop-n.place.items c.rescan_shape.new.place.items
    c.rescan_shape.ensures.size c.rescan_shape.ensures.ready_size c.rescan_shape.ensures.lowered c.rescan_shape.ensures.kept c.rescan_shape.ensures.scanned c.loop-n.invariant
