use Rattle.std.proofs.Common.{◌≡◌, ℕ, arith, length, subst}
use Rattle.end_bounds.specs.Levels.{AreLaid}
use Rattle.end_bounds.proofs.TableLemmas.{laid_more}
use Rattle.end_bounds.proofs.layout.lay.Goals as goal

pub loop-n-preserved : goal.loop-n-preserved
loop-n-preserved g c =
    rw c.in_ok-push.ensures.items
    (laid_more (g.T.Timetable.shapes c.args.timetable.now) c.loop-n.n c.loop-n.bases.items c.loop-n.places c.in_ok-places.places c.shape.result.now c.shape.ensures c.in_ok-places.ensures c.loop-n.invariant)

pub returns : goal.returns
returns g c =
    let all : c.loop-n.n ≡ length (g.T.Timetable.shapes c.args.timetable.now) = omega (arith, c.loop-n.auto.n-end, c.loop-n-test.false, c.shape_count-n-end.ensures) in
    subst (λ (count : ℕ). AreLaid (g.T.Timetable.shapes c.args.timetable.now) count c.loop-n.bases.items c.loop-n.places) all c.loop-n.invariant
