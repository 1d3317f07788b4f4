use Rattle.std.proofs.Common.{arith}
use Rattle.walk_table.specs.Passed.{IsPassedOver}
use Rattle.walk_table.proofs.PassedLemmas.{counts_all, counts_one, counts_other}
use Rattle.walk_table.proofs.passed.passed_over.Goals as goal
use Rattle.walk_table.proofs.passed.passed_over.Goals.{then-not-branch, else-not-branch}

pub loop-row-preserved : goal.loop-row-preserved
loop-row-preserved c =
    elim c.if-not-branch.branch [
      | then-not-branch w ↦ rw w.passed-is (record {
        counts = counts_one (IsPassedOver c.args.stops.now) c.args.transfers.now c.loop-row.row-index c.loop-row.passed _ (omega arith)
            (λ h. let e = c.in_ok-holds_somewhere.ensures.1 h in let f = w.if-not-branch.true in absurd (cc)) c.loop-row.invariant.counts;
        few = omega arith;
      })
      | else-not-branch w ↦ rw w.passed-is (record {
        counts = counts_other (IsPassedOver c.args.stops.now) c.args.transfers.now c.loop-row.row-index c.loop-row.passed _ (omega arith)
            (λ k. k (c.in_ok-holds_somewhere.ensures.0 w.if-not-branch.false)) c.loop-row.invariant.counts;
        few = omega arith;
      })
    ]

pub returns : goal.returns
returns c = counts_all (IsPassedOver c.args.stops.now) c.args.transfers.now c.loop-row.row-index c.loop-row.passed (omega arith) c.loop-row.invariant.counts
