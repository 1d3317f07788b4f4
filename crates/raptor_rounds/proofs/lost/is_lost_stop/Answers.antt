use Rattle.std.proofs.Common.{arith}
use Rattle.end_bounds.specs.Found.{bounds_of}
use Rattle.raptor_rounds.specs.Rides.{standing_at}
use Rattle.raptor_rounds.proofs.FrontLemmas.{lost_by_rows, ready_stands}
use Rattle.raptor_rounds.proofs.LostLemmas.{same_ℤ}
use Rattle.raptor_rounds.proofs.lost.is_lost_stop.Goals as goal

pub is_lost-requires-clause-at : goal.is_lost-requires-clause-at
is_lost-requires-clause-at c =
    let ready = c.args.ready.now in
    rw c.standing_at.ensures (ready_stands c.args.request.now ready ready.time c.requires.ready (same_ℤ ready.time) c.requires.ready.soon)

pub returns : goal.returns
returns c = λ lost.
    let s = c.args.state.now in
    let ready = c.args.ready.now in
    let b = bounds_of s.aim.bounds in
    record {
      further = omega arith;
      lost = lost_by_rows c.args.request.now s (standing_at ready ready.time) (b.ready ready.stop) (b.ready_points ready.stop) c.ready-seconds.result.now c.ready_points-points.result.now c.requires.open c.ready-seconds.ensures c.ready_points-points.ensures
          (rw (c.deref.ensures.value, c.standing_at.ensures) at (c.is_lost.ensures lost));
    }
