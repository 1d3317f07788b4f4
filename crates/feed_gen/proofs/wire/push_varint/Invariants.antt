use Rattle.std.proofs.Common.{◌≡◌, ℕ, ◌≤◌, ◌++◌}
use Rattle.feed_gen.specs.Wire.{varint, varint_in}
use Rattle.feed_gen.proofs.wire.push_varint.Given as goal

abbrev pub invariant-loop-left : goal.invariant-loop-left
invariant-loop-left l = record {
  room : ℕ;
  enough : l.left ≤ room;
  parts : l.bytes.items ++ varint_in room l.left ≡ l.initial.bytes.items ++ varint l.number;
}

abbrev pub decreases-loop-left : goal.decreases-loop-left
decreases-loop-left l = l.left
