use Rattle.std.proofs.Common.{◌≡◌, []}
use Rattle.std.specs.Prelude.{drop}
use Rattle.commit_history.proofs.showing.append.Given as goal

abbrev pub invariant-loop : goal.invariant-loop
invariant-loop g l = (l.next ≡ l.initial.next) × (drop l.writer.behind l.writer.log.items ≡ []) × (l.writer.desk ≡ l.initial.writer.desk)
