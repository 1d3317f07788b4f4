use Rattle.std.proofs.Common.{◌≡◌, ◌<◌, List, length, Some, subst, sym, arith}
use Rattle.std.specs.List.{slice_get}
use Rattle.std.proofs.lemmas.List.{length-map}
use Rattle.otp_model.specs.Patterns.{Spot}
use Rattle.trip_patterns.specs.Lanes.{IsCallAt, LaneOf}
use Rattle.trip_patterns.specs.Rows.{run_of}
use Rattle.trip_patterns.proofs.ReadLemmas.{run_at}
use Rattle.trip_patterns.proofs.lane.Lane.call.Goals as goal

pub returns : goal.returns
returns c =
    let lane = c.self.inside in
    let row = c.index.result.now in
    let less : c.args.row < length lane.rows.items = (let l = subst (λ (l : LaneOf). c.args.row < length l.runs) (sym c.self.view_is) c.requires.row in omega (arith, l, length-map lane.rows.items (run_of lane.pattern))) in
    subst (λ (l : LaneOf). IsCallAt l.runs c.args.row c.args.position c.call.result) c.self.view_is (record {
      run = run_of lane.pattern row;
      run_is = run_at lane.pattern lane.rows.items c.args.row row less c.index.ensures;
      call_is = subst (λ (p : List Spot). slice_get (run_of p row).calls c.args.position ≡ Some c.call.result) c.as_slice.ensures c.call.ensures;
    })
