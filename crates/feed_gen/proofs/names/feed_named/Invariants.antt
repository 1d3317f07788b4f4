use Rattle.std.proofs.Common.{◌≡◌, ℕ, ◌≤◌, ◌<◌}
use Rattle.feed_gen.specs.Messages.{message_name}
use Rattle.feed_gen.proofs.names.feed_named.Given as goal

abbrev pub invariant-loop-feed : goal.invariant-loop-feed
invariant-loop-feed l = (feed : ℕ) → 1 ≤ feed → feed < l.feed → l.name ≡ message_name l.commit feed → ⊥
