use Rattle.std.proofs.Common.{ap, length, sym, subst}
use Rattle.publish_bench.proofs.SilenceLemmas.{silent_base}
use Rattle.publish_bench.specs.Silence.{IsSilent}
use Rattle.publish_bench.proofs.publishing.publish_while.Goals as goal

pub loop-count-init : goal.loop-count-init
loop-count-init g c = (subst IsSilent (sym c.requires.empty) silent_base, c.requires.runs, ap length c.requires.empty)
