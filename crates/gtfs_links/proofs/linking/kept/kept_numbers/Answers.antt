use Rattle.std.proofs.Common.{arith}
use Rattle.std.proofs.lemmas.Bool.{le-leb, lt-leb}
use Rattle.gtfs_links.proofs.KeptFacts.{keeps_next, leaves_next, numbered_all, numbered_none}
use Rattle.gtfs_links.proofs.linking.kept.kept_numbers.Goals as goal
use Rattle.gtfs_links.proofs.linking.kept.kept_numbers.Goals.{then-count-lt-LEAST_CALLS+in_ok-push, else-count-lt-LEAST_CALLS+in_ok-push-2}

pub loop-count-init : goal.loop-count-init
loop-count-init c = rw c.new-numbers.ensures (numbered_none c.args.counts.now)

pub loop-count-preserved : goal.loop-count-preserved
loop-count-preserved c =
    let counts = c.args.counts.now in
    let i = c.loop-count.count-index in
    let inv = c.loop-count.invariant in
    elim c.if-count-lt-LEAST_CALLS.branch [
      | then-count-lt-LEAST_CALLS+in_ok-push w ↦ rw (w.numbers-is, w.kept-is, w.in_ok-push.ensures.ok) (leaves_next counts c.loop-count.numbers c.loop-count.kept i (omega arith) inv (lt-leb 2 _ w.if-count-lt-LEAST_CALLS.true))
      | else-count-lt-LEAST_CALLS+in_ok-push-2 w ↦ rw (w.numbers-is, w.kept-is, w.in_ok-push-2.ensures.ok) (keeps_next counts c.loop-count.numbers c.loop-count.kept i (omega arith) inv (le-leb 2 _ w.if-count-lt-LEAST_CALLS.false))
    ]

pub returns : goal.returns
returns c = numbered_all c.args.counts.now c.loop-count.numbers c.loop-count.kept c.loop-count.count-index (omega arith) (omega arith) c.loop-count.invariant
