use Rattle.std.proofs.Common.{arith, length, rules, ◌≡◌}
use Rattle.raptor_rounds.specs.States.{bounds_of}
use Rattle.raptor_rounds.proofs.BlockLemmas.{ride_bounds}
use Rattle.raptor_rounds.proofs.RoundLemmas.{round_more}
use Rattle.raptor_rounds.proofs.round.walk_rounds.Goals as goal

pub loop-rides-preserved : goal.loop-rides-preserved
loop-rides-preserved g c =
    let t = c.args.timetable.now in
    let old = c.loop-rides.state in
    let count : c.len-next.result ≡ length old.arena.items = search rules in
    record {
      round = rw count (round_more (g.T.Timetable.runs t) (g.T.Timetable.blocks t) (g.met.T.Timetable.stands t) c.args.edges.now c.args.request.now c.args.departure.now c.args.state.now.departures.items c.loop-rides.first
          c.loop-rides.rides old _ c.loop-rides.invariant.round c.in_ok-walk_all.ensures.settles);
      marks = c.in_ok-walk_all.ensures.marks;
    }

pub walk_all-requires-clause-bounds : goal.walk_all-requires-clause-bounds
walk_all-requires-clause-bounds g c =
    ride_bounds (g.T.Timetable.blocks c.args.timetable.now) c.args.edges.now c.args.request.now (bounds_of c.loop-rides.state) c.loop-rides.invariant.round.bounds

pub returns-clause-round : goal.returns-clause-round
returns-clause-round g c = record { first = c.loop-rides.first; rides = c.loop-rides.rides; all = omega arith; round = c.loop-rides.invariant.round }
