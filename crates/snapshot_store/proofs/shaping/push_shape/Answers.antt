use Rattle.trip_patterns.specs.FirstFit.{rows_of}
use Rattle.snapshot_store.proofs.ShapingLemmas.{made_for}
use Rattle.snapshot_store.proofs.shaping.push_shape.Goals as goal

pub returns : goal.returns
returns c =
    made_for c.args.pattern.now (rows_of c.args.lanes.now) c.args.shapes.now.items c.push.new.self.items c.in_ok-shape.shape c.lower.new.shape c.in_ok-shape.ensures c.lower.ensures
    c.in_ok-push.ensures.items
