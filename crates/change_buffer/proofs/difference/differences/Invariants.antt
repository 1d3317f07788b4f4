use Rattle.std.proofs.Common.{◌≡◌}
use Rattle.change_buffer.specs.Forms.{differences}
use Rattle.change_buffer.proofs.difference.differences.Given as goal

abbrev pub invariant-loop-name : goal.invariant-loop-name
invariant-loop-name l = l.changes ≡ differences l.feed l.feeds l.yielded
