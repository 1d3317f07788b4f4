use Rattle.std.proofs.Common.{◌≡◌, ◌++◌, map, take, drop}
use Rattle.change_buffer.specs.Offers.{settled}
use Rattle.change_buffer.proofs.buffer.settle_all.Given as goal

abbrev pub invariant-loop-feed : goal.invariant-loop-feed
invariant-loop-feed l = l.feeds ≡ map settled (take l.feed-index l.initial.feeds) ++ drop l.feed-index l.initial.feeds
