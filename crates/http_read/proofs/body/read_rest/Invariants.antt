use Rattle.std.proofs.Common.{◌≡◌, ◌-◌, ◌≤◌, length, take}
use Rattle.http_read.specs.Held.{Stays}
use Rattle.http_read.proofs.body.read_rest.Given as goal

abbrev pub invariant-loop-piece : goal.invariant-loop-piece
invariant-loop-piece g l = record {
  stream : Stays (g.S.Source.left l.initial.source) l.initial.body.items (g.S.Source.left l.source) l.body.items;
  begins : take (length l.initial.body.items) l.body.items ≡ l.initial.body.items;
  within : length l.body.items ≤ l.size;
  later : g.S.Source.faults l.initial.source ≤ g.S.Source.faults l.source;
}

abbrev pub decreases-loop-piece : goal.decreases-loop-piece
decreases-loop-piece g l = l.size - length l.body.items
