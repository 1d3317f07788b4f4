use Rattle.std.proofs.Common.{◌≡◌, take}
use Rattle.change_buffer.specs.Forms.{names_changed}
use Rattle.change_buffer.proofs.names_changed.names_changed.Given as goal

abbrev pub invariant-loop-feed : goal.invariant-loop-feed
invariant-loop-feed l = l.names.items ≡ names_changed (take l.feed-index l.feeds)
