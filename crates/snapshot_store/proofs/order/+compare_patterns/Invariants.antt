use Rattle.std.proofs.Common.{length}
use Rattle.snapshot_store.proofs.order.+compare_patterns.Given as goal

abbrev pub decreases-compare_patterns : goal.decreases-compare_patterns
decreases-compare_patterns g l = length l.pattern.now
