use Rattle.std.proofs.Common.{◌≡◌, ◌<◌, Option, Some, length, map, IfSome, subst, sym, ◌∙◌, arith}
use Rattle.std.specs.List.{slice_get}
use Rattle.std.proofs.lemmas.List.{length-map}
use Rattle.otp_model.specs.declared.timetable.Call.{Call}
use Rattle.otp_model.specs.declared.timetable.Run.{Run}
use Rattle.trip_patterns.specs.Lanes.{LaneOf}
use Rattle.trip_patterns.specs.Rows.{run_of}
use Rattle.trip_patterns.proofs.ReadLemmas.{own_arrivals, row_at, run_at}
use Rattle.trip_patterns.proofs.lane.Lane.arrivals.Goals as goal

pub returns : goal.returns
returns c =
    let lane = c.self.inside in
    let row = c.index.result.now in
    let less : c.args.row < length lane.rows.items = (let l = subst (λ (l : LaneOf). c.args.row < length l.runs) (sym c.self.view_is) c.requires in omega (arith, l, length-map lane.rows.items (run_of lane.pattern))) in
    let at = run_at lane.pattern lane.rows.items c.args.row row less c.index.ensures in
    let own = c.as_slice.ensures ∙ own_arrivals lane.pattern row (row_at lane.day lane.pattern lane.rows.items c.args.row row c.self.invariant.are_rows less c.index.ensures) in
    subst (λ (l : LaneOf). IfSome (slice_get l.runs c.args.row) (λ run. c.as_slice.result.now ≡ map (λ (call : Call). call.arrival) run.calls)) c.self.view_is
    (if_some _ (run_of lane.pattern row) at own)
  where
    if_some : (o : Option Run) (run : Run) → o ≡ Some run → c.as_slice.result.now ≡ map (λ (call : Call). call.arrival) run.calls → IfSome o (λ run. c.as_slice.result.now ≡ map (λ (call : Call). call.arrival) run.calls)
    if_some o run is own = rw is own
