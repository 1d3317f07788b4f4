use Rattle.std.proofs.Common.{◌≡◌, [], length}
use Rattle.std.specs.Prelude.{All}
use Rattle.commit_history.specs.Views.{fresh_pass}
use Rattle.commit_history.proofs.writer.open.Given as goal

abbrev pub invariant-loop-count : goal.invariant-loop-count
invariant-loop-count g l = (l.writer.feed ≡ l.feed) × (l.writer.history ≡ []) × (length l.passes.items ≡ l.count) × All (λ pass. pass ≡ fresh_pass l.writer) l.passes.items
