use Rattle.std.proofs.Common.{◌≡◌, ◌+◌, drop}
use Rattle.std.specs.Option.{option_map}
use Rattle.otp_model.specs.Moves.{given_from, raised}
use Rattle.rt_resolve.specs.Courses.{with_calls}
use Rattle.rt_resolve.proofs.added.given_calls.Given as goal

abbrev pub invariant-loop-update : goal.invariant-loop-update
invariant-loop-update l = record {
  so_far : option_map (with_calls l.course) (given_from l.lookup.stops (l.seq + 1) (drop l.update-index l.updates)) ≡ option_map raised (given_from l.lookup.stops 1 l.updates);
  seq : l.seq ≡ l.update-index;
}
