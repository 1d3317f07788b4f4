use Rattle.std.proofs.Common.{◌-◌, ◌≤◌, length, take}
use Rattle.http_read.specs.Scan.{IsScan}
use Rattle.http_read.proofs.scan.Scan.go_on.Given as goal

abbrev pub invariant-loop-self : goal.invariant-loop-self
invariant-loop-self l = record {
  room : l.self.at ≤ length l.bytes;
  scan : IsScan (take l.self.at l.bytes) l.self;
}

abbrev pub decreases-loop-self : goal.decreases-loop-self
decreases-loop-self l = 16384 - l.self.at
