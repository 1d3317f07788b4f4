use Rattle.std.proofs.Common.{arith, ◌≡◌, ◌+◌, [], sym, ℕ, List, get_or, Some, subst}
use Rattle.std.specs.List.{slice_get}
use Rattle.std.proofs.lemmas.List.{get_or_default}
use Rattle.std.proofs.lemmas.Option.{slice_get-get_or}
use Rattle.std.proofs.lemmas.Result.{err_from_is_err_and}
use Rattle.otp_model.specs.declared.links.TransferRow.{TransferRow}
use Rattle.otp_model.specs.declared.timetable.Edge.{Edge}
use Rattle.otp_base.specs.Adds.{IsOnly}
use Rattle.otp_base.proofs.AddsLemmas.{adds_more_some, adds_option}
use Rattle.walk_table.specs.Near.{AreCandidates}
use Rattle.walk_table.specs.Rows.{IsEdgeTo}
use Rattle.walk_table.proofs.EdgeLemmas.{adds_edge, cause_from, edges_whole, IsEdgeAt, next_rises}
use Rattle.walk_table.proofs.RisingLemmas.{IsRisingTo, rising_more, rising_to}
use Rattle.walk_table.proofs.all_edges.edges_from.Goals as goal

pub returns-in_err-add_edge-clause-fault : goal.returns-in_err-add_edge-clause-fault
returns-in_err-add_edge-clause-fault c =
    let stops = c.args.ground.now.stops.now in
    let rows = c.in_ok-rows.rows.items in
    let profile = c.args.ground.now.profile.now in
    let p = c.args.from.now.number in
    let from = c.args.from.now.stop.now in
    let numbers = c.deref-number-items.result.now in
    let i = c.loop-number.number-index in
    let n = get_or numbers i 0 in
    let to = get_or stops n c.index-ground-number.result in
    let candidates : AreCandidates stops rows profile p from numbers =
    subst (λ (list : List TransferRow). AreCandidates stops list profile p from numbers) c.deref.ensures.value
    (subst (λ (list : List ℕ). AreCandidates stops c.deref.result.now profile p from list) (sym c.deref-number-items.ensures.value) c.in_ok-candidates.ensures) in
    let nth : n ≡ get_or numbers i n = get_or_default numbers i 0 n c.loop-number-test.true in
    let next = next_rises stops numbers i n candidates.rise candidates.within c.loop-number-test.true nth in
    let at : slice_get stops n ≡ Some to = slice_get-get_or stops n c.index-ground-number.result next.2 in
    let only = subst (λ (list : List TransferRow). IsOnly (IsEdgeTo stops list profile p from n to) c.edge_to-edge.result) c.deref-in-loop-number.ensures.value c.edge_to-edge.ensures in
    let rising = subst (λ (k : ℕ). IsRisingTo (λ (edge : Edge). edge.to) k c.loop-number.list.items) (sym next.0) c.loop-number.invariant.rising in
    let end = err_from_is_err_and c.from_residual-in_err-add_edge.result c.from_residual-in_err-add_edge.ensures.1 in
    rw (end.1, end.2) (cause_from stops c.args.transfers.now rows profile p from numbers i n to c.args.room c.loop-number.list.items c.edge_to-edge.result c.in_err-add_edge.field-0.0
    c.requires.stop c.in_ok-rows.ensures at c.loop-number-test.true nth c.loop-number.invariant.reached rising only c.in_err-add_edge.ensures.fault)

pub loop-number-preserved : goal.loop-number-preserved
loop-number-preserved c =
    let stops = c.args.ground.now.stops.now in
    let rows = c.in_ok-rows.rows.items in
    let profile = c.args.ground.now.profile.now in
    let p = c.args.from.now.number in
    let from = c.args.from.now.stop.now in
    let numbers = c.deref-number-items.result.now in
    let i = c.loop-number.number-index in
    let n = get_or numbers i 0 in
    let to = get_or stops n c.index-ground-number.result in
    let candidates : AreCandidates stops rows profile p from numbers =
    subst (λ (list : List TransferRow). AreCandidates stops list profile p from numbers) c.deref.ensures.value
    (subst (λ (list : List ℕ). AreCandidates stops c.deref.result.now profile p from list) (sym c.deref-number-items.ensures.value) c.in_ok-candidates.ensures) in
    let nth : n ≡ get_or numbers i n = get_or_default numbers i 0 n c.loop-number-test.true in
    let next = next_rises stops numbers i n candidates.rise candidates.within c.loop-number-test.true nth in
    let at : slice_get stops n ≡ Some to = slice_get-get_or stops n c.index-ground-number.result next.2 in
    let only = subst (λ (list : List TransferRow). IsOnly (IsEdgeTo stops list profile p from n to) c.edge_to-edge.result) c.deref-in-loop-number.ensures.value c.edge_to-edge.ensures in
    let rising = subst (λ (k : ℕ). IsRisingTo (λ (edge : Edge). edge.to) k c.loop-number.list.items) (sym next.0) c.loop-number.invariant.rising in
    record {
      reached = adds_more_some (IsEdgeAt stops rows profile p from) numbers i n [] _ _ c.loop-number-test.true nth c.loop-number.invariant.reached
          (adds_edge stops rows profile p from n to _ _ at (adds_option (IsEdgeTo stops rows profile p from n to) _ _ c.edge_to-edge.result c.in_ok-add_edge.ensures.added only));
      rising = rising_to (λ (edge : Edge). edge.to) (n + 1) _ c.add_edge.new.list.items (omega (arith, next.1))
          (rising_more (λ (edge : Edge). edge.to) n (IsEdgeTo stops rows profile p from n to) _ _ c.edge_to-edge.result (λ x h. h.0) c.in_ok-add_edge.ensures.added only rising);
      few = c.in_ok-add_edge.ensures.few;
    }

pub returns-clause-edges : goal.returns-clause-edges
returns-clause-edges c =
    let stops = c.args.ground.now.stops.now in
    let rows = c.in_ok-rows.rows.items in
    let profile = c.args.ground.now.profile.now in
    let p = c.args.from.now.number in
    let from = c.args.from.now.stop.now in
    let numbers = c.deref-number-items.result.now in
    let i = c.loop-number.number-index in
    let candidates : AreCandidates stops rows profile p from numbers =
    subst (λ (list : List TransferRow). AreCandidates stops list profile p from numbers) c.deref.ensures.value
    (subst (λ (list : List ℕ). AreCandidates stops c.deref.result.now profile p from list) (sym c.deref-number-items.ensures.value) c.in_ok-candidates.ensures) in
    rw c.from_vec.ensures (edges_whole stops c.args.transfers.now rows profile p from numbers i _ c.loop-number.list.items
    c.requires.stop c.in_ok-rows.ensures candidates c.loop-number-test.false c.loop-number.invariant.reached c.loop-number.invariant.rising)
