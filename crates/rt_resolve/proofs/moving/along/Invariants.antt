use Rattle.std.proofs.Common.{◌≡◌, drop, map, pos}
use Rattle.std.specs.List.{All}
use Rattle.otp_model.specs.Moves.{moved_from, raised}
use Rattle.rt_resolve.specs.Courses.{with_calls}
use Rattle.rt_resolve.specs.Meaning.{MeansWithEvents, meant_of}
use Rattle.rt_resolve.proofs.moving.along.Given as goal

abbrev pub invariant-loop-place : goal.invariant-loop-place
invariant-loop-place l = record {
  so_far : with_calls l.course (moved_from l.delay.seconds l.place (map meant_of l.left) (drop l.place l.calls)) ≡ raised (moved_from (pos 0) 0 (map meant_of l.meant) l.calls);
  events : All MeansWithEvents l.left;
}
