use Rattle.std.proofs.Common.{◌≡◌, ◌-◌, ◌+◌, ◌≤◌, length}
use Rattle.pb_wire.specs.Cutting.{cut_in, cut}
use Rattle.pb_wire.proofs.CutLoop.{with_front}
use Rattle.pb_wire.proofs.reading.all.Given as goal

abbrev pub invariant-loop-rest : goal.invariant-loop-rest
invariant-loop-rest l = record {
  within : length l.rest ≤ length l.bytes;
  so_far : with_front l.found.items (cut_in (length l.rest) (l.at + (length l.bytes - length l.rest)) l.rest) ≡ cut l.at l.bytes;
}

abbrev pub decreases-loop-rest : goal.decreases-loop-rest
decreases-loop-rest l = length l.rest
