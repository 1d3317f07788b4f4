use Rattle.std.proofs.Common.{◌<◌, ◌++◌, ◌∙◌, List, length, subst, arith}
use Rattle.std.proofs.lemmas.List.{take_all}
use Rattle.trip_patterns.specs.FirstFit.{rows_of}
use Rattle.trip_patterns.specs.Lanes.{LaneOf}
use Rattle.trip_patterns.specs.Shapes.{IsShapeOf}
use Rattle.snapshot_store.proofs.ShapingLemmas.{lowered_more}
use Rattle.snapshot_store.proofs.shaping.lower.Goals as goal

pub loop-lane-preserved : goal.loop-lane-preserved
loop-lane-preserved c =
    let pattern = c.args.shape.now.pattern in
    let lanes = c.args.lanes.now in
    let less : c.loop-lane.lane-index < length lanes = omega arith in
    record {
      pattern = c.lower_by.ensures.pattern ∙ c.loop-lane.invariant.pattern;
      joined = λ runs is.
          lowered_more pattern lanes c.loop-lane.lane-index c.lane-item.result runs c.loop-lane.shape c.lower_by.new.self less c.lane-item.is c.loop-lane.invariant.pattern
          (c.loop-lane.invariant.joined runs is) c.lower_by.ensures.least;
    }

pub returns : goal.returns
returns c = λ runs is.
    let pattern = c.args.shape.now.pattern in
    let lanes = c.args.lanes.now in
    subst (λ (ls : List LaneOf). IsShapeOf pattern (runs ++ rows_of ls) c.loop-lane.shape) (take_all c.loop-lane.lane-index lanes (omega arith)) (c.loop-lane.invariant.joined runs is)
