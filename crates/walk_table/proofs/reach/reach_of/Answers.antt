use Rattle.std.proofs.Common.{length, ◌≤◌, arith, refl, List, [], ◌↔◌, subst, ◌≡◌, Some}
use Rattle.std.specs.List.{Contains, slice_get}
use Rattle.std.proofs.lemmas.Option.{slice_get_read}
use Rattle.otp_model.specs.declared.timetable.Point.{Point}
use Rattle.otp_model.specs.declared.timetable.Stop.{Stop}
use Rattle.otp_model.specs.Plane.{HasPoint}
use Rattle.otp_base.specs.Adds.{Adds, IsOnly, FromBelow}
use Rattle.walk_table.specs.declared.reach.Reach.{Reach}
use Rattle.walk_table.specs.Reaches.{IsReachAt, IsReachOf}
use Rattle.otp_base.proofs.AddsLemmas.{adds_more_below, adds_option}
use Rattle.walk_table.proofs.ReachLemmas.{adds_reach, reached_all}
use Rattle.walk_table.proofs.RisingLemmas.{rising_more}
use Rattle.walk_table.proofs.reach.reach_of.Goals as goal

pub loop-n-preserved : goal.loop-n-preserved
loop-n-preserved c =
    let profile = c.args.edges.now.profile in
    let points = c.in_ok-points.points.items in
    let stops = c.as_slice-stops.result.now in
    let n = c.loop-n.n in
    let stop = c.index-stops-n.result in
    let at : slice_get stops n ≡ Some stop = slice_get_read stops _ n stop refl (omega arith) c.index-stops-n.is in
    let only = subst (λ (ps : List Point). IsOnly (IsReachAt profile ps n stop) c.reach_at.result) c.deref.ensures.value c.reach_at.ensures in
    record {
      reached = adds_more_below (IsReachOf profile points stops) n [] _ _ c.loop-n.invariant.reached
          (adds_reach profile points stops n stop _ _ at (adds_option (IsReachAt profile points n stop) _ _ c.reach_at.result c.in_ok-push_some.ensures only));
      rising = rising_more (λ (reach : Reach). reach.stop) n (IsReachAt profile points n stop) _ _ c.reach_at.result (λ x h. h.1) c.in_ok-push_some.ensures only c.loop-n.invariant.rising;
    }

pub returns-clause-reached : goal.returns-clause-reached
returns-clause-reached c =
    let profile = c.args.edges.now.profile in
    let points = c.in_ok-points.points.items in
    let exact = subst (λ (ss : List Stop). (p : Point) → Contains points p ↔ HasPoint ss c.args.place.now p) c.as_slice-stops.ensures c.in_ok-points.ensures in
    let all = subst (λ (ss : List Stop). Adds (FromBelow (IsReachOf profile points ss) c.loop-n.n) [] c.loop-n.list.items) c.as_slice-stops.ensures c.loop-n.invariant.reached in
    reached_all c.args.edges.now c.args.place.now points c.loop-n.n c.loop-n.list.items exact (subst (λ (ss : List Stop). length ss ≤ c.loop-n.n) c.as_slice-stops.ensures (omega arith)) all
