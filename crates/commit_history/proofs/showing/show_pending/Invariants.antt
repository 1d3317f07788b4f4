use Rattle.std.proofs.Common.{◌≡◌}
use Rattle.std.specs.Prelude.{drop}
use Rattle.commit_history.proofs.showing.show_pending.Given as goal

abbrev pub invariant-loop : goal.invariant-loop
invariant-loop g l = (drop l.writer.behind l.writer.log.items ≡ drop l.initial.writer.behind l.initial.writer.log.items) × (l.writer.desk.shown.value ≡ l.initial.writer.desk.shown.value)
