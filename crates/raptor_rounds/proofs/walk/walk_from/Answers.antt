use Rattle.std.proofs.Common.{List, length, refl, subst, Some, ◌≡◌}
use Rattle.std.specs.List.{slice_get}
use Rattle.std.proofs.lemmas.Option.{slice_get_read}
use Rattle.otp_base.specs.Adds.{FromSome}
use Rattle.otp_model.specs.declared.timetable.Edge.{Edge}
use Rattle.raptor_rounds.specs.Scans.{IsWalkedBy, WalksBy}
use Rattle.raptor_rounds.specs.States.{Settles}
use Rattle.raptor_rounds.proofs.WalkLemmas.{settles_edges}
use Rattle.raptor_rounds.proofs.walk.walk_from.Goals as goal

pub returns-clause-settles : goal.returns-clause-settles
returns-clause-settles g c =
    let t = c.args.timetable.now in
    let runs = g.T.Timetable.runs t in
    let blocks = g.T.Timetable.blocks t in
    let edges = c.args.edges.now in
    let r = c.args.request.now in
    let n = c.args.node.now in
    let i = c.args.number in
    let row = c.in-Some.row.now in
    let from = c.as_slice.result.now in
    let look = c.in-Some.ensures.lookup in
    let is = subst (λ (rows : List (List Edge)). slice_get rows n.stop ≡ Some row) c.as_slice.ensures (slice_get_read from (length from) n.stop row refl look.3.0 look.1) in
    settles_edges blocks runs edges r i n row c.args.state.now c.walk_edges.new.state is
    (subst (λ (xs : List Edge). Settles r n.departure (FromSome (WalksBy runs r i n) xs) (FromSome (IsWalkedBy blocks r i n) xs) c.args.state.now c.walk_edges.new.state) c.as_slice-2.ensures c.in_ok-walk_edges.ensures.settles)
