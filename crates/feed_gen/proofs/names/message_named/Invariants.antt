use Rattle.std.proofs.Common.{◌≡◌, ℕ, ◌≤◌, ◌<◌}
use Rattle.feed_gen.specs.Messages.{message_name}
use Rattle.feed_gen.proofs.names.message_named.Given as goal

abbrev pub invariant-loop-commit : goal.invariant-loop-commit
invariant-loop-commit l = (commit feed : ℕ) → 1 ≤ commit → commit < l.commit → 1 ≤ feed → feed ≤ 10 → l.name ≡ message_name commit feed → ⊥
