use Rattle.std.specs.Prelude.{◌≡◌, length}
use Rattle.std.specs.Arc.{arc_value}
use Rattle.publish_bench.specs.Silence.{HasRunsOf, IsSilent}
use Rattle.publish_bench.proofs.publishing.publish_while.Given as goal

abbrev pub invariant-loop-count : goal.invariant-loop-count
invariant-loop-count g l = IsSilent l.writer.history × HasRunsOf (arc_value l.snapshot) l.writer.feed × (length l.writer.history ≡ l.count)
