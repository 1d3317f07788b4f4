use Rattle.std.proofs.Common.{◌∙◌, arith}
use Rattle.std.proofs.lemmas.List.{take_all}
use Rattle.feed_load.specs.Marks.{is_marked}
use Rattle.feed_load.proofs.MarkLemmas.{list_all, list_none, row_marked}
use Rattle.feed_load.proofs.starts.list_starts.Goals as goal

pub loop-row-init : goal.loop-row-init
loop-row-init c = rw c.new-starts.ensures.items (record {
  kept = c.clear.ensures.marks;
  times = c.clear.ensures.times;
  marked = c.clear.ensures.none;
  listed = list_none c.clear.new.self c.clear.ensures.none;
})

pub loop-row-preserved : goal.loop-row-preserved
loop-row-preserved c =
    let made = c.in_ok-add_starts.ensures in
    let kept = c.loop-row.invariant in
    record {
      kept = made.marks;
      times = made.times ∙ kept.times;
      marked = λ time. row_marked c.args.rows.now c.loop-row.row-index time _ (is_marked c.add_starts.new.marks time) (is_marked c.loop-row.marks time) c.loop-row-test.true (made.marked time) (kept.marked time);
      listed = made.listed;
    }

pub returns-clause-starts : goal.returns-clause-starts
returns-clause-starts c =
    let rows = c.args.rows.now in
    let kept = c.loop-row.invariant in
    let whole = take_all c.loop-row.row-index rows c.loop-row-test.false in
    list_all c.loop-row.marks rows (rw kept.times c.requires.rows) (λ time. rw whole at (kept.marked time)) c.loop-row.starts.items c.sort.new.self.items (omega (arith, kept.times, c.requires.clock)) kept.listed
    c.in_ok-sort.ensures.permutation c.in_ok-sort.ensures.sorted
