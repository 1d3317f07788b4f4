use Rattle.commit_bench.specs.Ready.{IsReady}
use Rattle.commit_bench.proofs.measure.commit_all.Given as goal

abbrev pub invariant-loop-word : goal.invariant-loop-word
invariant-loop-word l = IsReady l.lookup l.buffer
