use Rattle.std.proofs.Common.{◌≡◌, ◌+◌, take}
use Rattle.std.specs.Prelude.{sum_by}
use Rattle.link_doors.proofs.memory_door.links_of.Given as goal

abbrev pub invariant-loop-port : goal.invariant-loop-port
invariant-loop-port l = l.links ≡ l.fn.left + sum_by (λ p. p.share) (take l.port-index l.ports)
