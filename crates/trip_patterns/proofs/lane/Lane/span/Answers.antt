use Rattle.std.proofs.Common.{◌≡◌, ◌-◌, length, ap, subst, sym, ◌∙◌, arith}
use Rattle.std.proofs.lemmas.List.{length-map}
use Rattle.trip_patterns.specs.Lanes.{IsLane, LaneOf}
use Rattle.trip_patterns.specs.Rows.{run_of}
use Rattle.trip_patterns.proofs.SpanLemmas.{span_is}
use Rattle.trip_patterns.proofs.lane.Lane.span.Goals as goal

pub returns : goal.returns
returns c =
    let lane = c.args.self.now in
    let inside = c.self.inside in
    let rows = c.len-rows.result in
    let positions = c.len-positions.result in
    let is : IsLane lane = subst IsLane c.self.view_is c.self.invariant.are_rows.lane in
    let runs : length lane.runs ≡ length inside.rows.items = ap (λ (l : LaneOf). length l.runs) (sym c.self.view_is) ∙ length-map inside.rows.items (run_of inside.pattern) in
    let wide : length lane.pattern ≡ length inside.pattern = ap (λ (l : LaneOf). length l.pattern) (sym c.self.view_is) in
    span_is lane c.call.result c.call-2.result (rows - 1) (positions - 1) c.between.result is (omega (arith, runs, c.len-rows.ensures)) (omega (arith, wide, c.len-positions.ensures))
    c.call.ensures c.call-2.ensures c.between.ensures.first c.between.ensures.last
