use Rattle.std.proofs.Common.{◌-◌, ◌≤◌, length, take}
use Rattle.http_read.specs.Held.{Stays}
use Rattle.http_read.specs.Scan.{IsScan}
use Rattle.http_read.proofs.ahead.look_ahead.Given as goal

abbrev pub invariant-reads : goal.invariant-reads
invariant-reads g l = record {
  stream : Stays (g.S.Source.left l.initial.source) l.initial.buffer (g.S.Source.left l.source) l.buffer;
  room : l.scan.at ≤ length l.buffer;
  scan : IsScan (take l.scan.at l.buffer) l.scan;
  later : g.S.Source.faults l.initial.source ≤ g.S.Source.faults l.source;
}

abbrev pub decreases-reads : goal.decreases-reads
decreases-reads g l = 16384 - length l.buffer
