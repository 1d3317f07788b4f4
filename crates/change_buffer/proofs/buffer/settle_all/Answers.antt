use Rattle.std.proofs.Common.{◌≡◌, ◌<◌, length, arith}
use Rattle.change_buffer.proofs.SettleLemmas.{replaced_more, replaced_within}
use Rattle.change_buffer.specs.Offers.{settled}
use Rattle.change_buffer.proofs.buffer.settle_all.Goals as goal

pub loop-feed-preserved : goal.loop-feed-preserved
loop-feed-preserved c =
    let same : length c.loop-feed.feeds ≡ length c.args.feeds.now = replaced_within settled c.args.feeds.now c.loop-feed.feeds c.loop-feed.feed-index c.loop-feed.invariant in
    let within : c.loop-feed.feed-index < length c.args.feeds.now = omega (arith, same, c.loop-feed-test.true) in
    replaced_more settled c.args.feeds.now c.loop-feed.feeds c.loop-feed.feed-index c.feed-item.result c.settle.new.self within c.loop-feed.invariant c.settle.ensures
