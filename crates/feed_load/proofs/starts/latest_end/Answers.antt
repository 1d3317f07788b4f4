use Rattle.std.proofs.lemmas.List.{take_all}
use Rattle.feed_load.proofs.MarkLemmas.{ends_more, least_more}
use Rattle.feed_load.proofs.starts.latest_end.Goals as goal

pub loop-row-preserved : goal.loop-row-preserved
loop-row-preserved c = record {
  all = ends_more c.args.rows.now c.loop-row.row-index c.loop-row.latest c.max-latest.result _ c.loop-row-test.true c.loop-row.invariant.all c.max-latest.ensures;
  least = least_more c.args.rows.now c.loop-row.row-index c.loop-row.latest c.max-latest.result _ c.loop-row-test.true c.max-latest.ensures c.loop-row.invariant.least;
}

pub returns-clause-all : goal.returns-clause-all
returns-clause-all c = rw (take_all c.loop-row.row-index c.args.rows.now c.loop-row-test.false) at c.loop-row.invariant.all
