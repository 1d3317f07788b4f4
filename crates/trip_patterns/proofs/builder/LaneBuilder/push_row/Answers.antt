use Rattle.std.proofs.Common.{◌≡◌, ℕ, ◌+◌, ◌*◌, ◌≤◌, List, ◌∷◌, [], ◌++◌, length, map, subst, sym, ap, ◌∙◌, arith}
use Rattle.std.proofs.lemmas.List.{length_push}
use Rattle.std.specs.Vec.{vec_capacity}
use Rattle.trip_patterns.specs.declared.row.Row.{Row}
use Rattle.trip_patterns.specs.Lanes.{IsLane, LaneOf, with_run}
use Rattle.trip_patterns.specs.Hops.{AreLeast, dwell_in, hop_in}
use Rattle.trip_patterns.specs.Rows.{lane_of, run_of}
use Rattle.trip_patterns.proofs.LaneLemmas.{joined, lane_more, rows_more}
use Rattle.trip_patterns.proofs.LeastLemmas.{least_lowered, same_lowered, write_back}
use Rattle.trip_patterns.proofs.builder.LaneBuilder.push_row.Goals as goal

pub invariant_of-self-2 : goal.invariant_of-self-2
invariant_of-self-2 g c =
    let lane = c.self.inside in
    let run = c.args.run.now in
    let is : IsLane (with_run (lane_of lane.day lane.pattern lane.rows.items) run)
    = subst (λ (l : LaneOf). IsLane (with_run l run)) (sym c.self.view_is) c.requires in
    let wide = subst (λ (n : ℕ). (c.len.result + 1) * n ≤ vec_capacity c.make_room.new.columns) c.len-2.ensures c.in_ok-make_room.ensures.room in
    let count : c.len.result + 1 ≡ length (lane.rows.items ++ c.in_ok-row.row ∷ []) = omega (arith, length_push lane.rows.items c.in_ok-row.row) in
    let rows = lane.rows.items ++ c.in_ok-row.row ∷ [] in
    let old = map (run_of lane.pattern) lane.rows.items in
    let of = (joined (lane_of lane.day lane.pattern lane.rows.items) run is).1 in
    let grown : map (run_of lane.pattern) rows ≡ old ++ run ∷ []
    = ap (λ (l : LaneOf). l.runs) (lane_more lane.day lane.pattern lane.rows.items run c.in_ok-row.row of c.in_ok-row.ensures.row) in
    let hops = same_lowered hop_in c.as_slice.result.now run.calls c.deref_mut.result.now lane.least.hops.items c.lower_hops.new.hops c.as_slice.ensures c.deref_mut.ensures.value c.lower_hops.ensures in
    let dwells = same_lowered dwell_in c.as_slice-2.result.now run.calls c.deref_mut-2.result.now lane.least.dwells.items c.lower_dwells.new.dwells c.as_slice-2.ensures c.deref_mut-2.ensures.value c.lower_dwells.ensures in
    let least = least_lowered (length lane.pattern) old run lane.least.hops.items lane.least.dwells.items c.lower_hops.new.hops c.lower_dwells.new.dwells c.self.invariant.are_least hops dwells in
    let written = write_back (AreLeast (length lane.pattern) (old ++ run ∷ [])) lane.least.hops lane.least.dwells c.lower_hops.new.hops c.lower_dwells.new.dwells hops.len dwells.len in
    rw c.in_ok-push.ensures.items (record {
      are_rows = rows_more lane.day lane.pattern lane.rows.items run c.in_ok-row.row c.self.invariant.are_rows is c.in_ok-row.ensures.row;
      are_least = rw grown (written least);
      unwritten = c.in_ok-make_room.ensures.items ∙ c.self.invariant.unwritten;
      has_room = subst (λ (n : ℕ). n * length lane.pattern ≤ vec_capacity c.make_room.new.columns) count wide;
    })

pub returns-clause-ok : goal.returns-clause-ok
returns-clause-ok g c =
    let lane = c.self.inside in
    let run = c.args.run.now in
    let is : IsLane (with_run (lane_of lane.day lane.pattern lane.rows.items) run)
    = subst (λ (l : LaneOf). IsLane (with_run l run)) (sym c.self.view_is) c.requires in
    let of = (joined (lane_of lane.day lane.pattern lane.rows.items) run is).1 in
    ap (λ (rows : List Row). lane_of lane.day lane.pattern rows) c.in_ok-push.ensures.items
    ∙ lane_more lane.day lane.pattern lane.rows.items run c.in_ok-row.row of c.in_ok-row.ensures.row
    ∙ ap (λ (l : LaneOf). with_run l run) c.self.view_is
