use Rattle.std.proofs.Common.{arith, inl, inr}
use Rattle.http_read.proofs.ScanLemmas.{head_taken, spent_taken}
use Rattle.http_read.proofs.scan.Scan.go_on.Goals as goal

pub returns-then-look : goal.returns-then-look
returns-then-look c = (omega (arith, c.look.ensures.size, c.loop-self.invariant.room), head_taken c.args.bytes.now c.look.new.self.at c.look.new.self c.if-look.ensures.found)

pub returns-else-self-lt-HEAD_FEEDS : goal.returns-else-self-lt-HEAD_FEEDS
returns-else-self-lt-HEAD_FEEDS c = spent_taken c.args.bytes.now c.loop-self.self.at c.loop-self.self c.loop-self.invariant.room c.loop-self.invariant.scan (inl c.if-self-lt-HEAD_FEEDS.false)

pub returns-after-loop-self : goal.returns-after-loop-self
returns-after-loop-self c = spent_taken c.args.bytes.now c.loop-self.self.at c.loop-self.self c.loop-self.invariant.room c.loop-self.invariant.scan (inr c.loop-self-test.false)
