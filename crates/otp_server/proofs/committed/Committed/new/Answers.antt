use Rattle.otp_server.proofs.CommittedFacts.{fresh_after}
use Rattle.otp_server.proofs.committed.Committed.new.Goals as goal

pub returns : goal.returns
returns c = fresh_after c.args.feed.now c.args.feeds _ c.in_ok-buffer.ensures.fresh c.in_ok-buffer.ensures.committed (c.in_ok-buffer.ensures.resolved c.args.feed.now) c.in_ok-snapshot.ensures
