use Rattle.std.proofs.Common.{◌+◌, ◌<◌, ◌∙◌, sym, arith}
use Rattle.std.proofs.lemmas.List.{take_all}
use Rattle.feed_load.specs.Marks.{is_marked}
use Rattle.feed_load.proofs.MarkLemmas.{count_all, count_few, count_none, row_marked}
use Rattle.feed_load.proofs.starts.count_starts.Goals as goal

pub loop-row-init : goal.loop-row-init
loop-row-init c = record {
  kept = c.clear.ensures.marks;
  times = c.clear.ensures.times;
  marked = c.clear.ensures.none;
  count = count_none c.clear.new.self c.clear.ensures.none;
}

pub overflow_add-count : goal.overflow_add-count
overflow_add-count c =
    let few = count_few c.mark_starts-count.new.marks in
    let sum = c.mark_starts-count.ensures.count in
    let so_far = c.loop-row.invariant.count in
    let small : c.loop-row.count + c.mark_starts-count.result < 4294967296 =
    omega (arith, few, sum, so_far, c.mark_starts-count.ensures.times, c.loop-row.invariant.times, c.requires.clock) in
    record { fits = small }

pub loop-row-preserved : goal.loop-row-preserved
loop-row-preserved c =
    let made = c.mark_starts-count.ensures in
    let kept = c.loop-row.invariant in
    record {
      kept = made.marks;
      times = made.times ∙ kept.times;
      marked = λ time. row_marked c.args.rows.now c.loop-row.row-index time _ (is_marked c.mark_starts-count.new.marks time) (is_marked c.loop-row.marks time) c.loop-row-test.true (made.marked time) (kept.marked time);
      count = (let sum = made.count in let so_far = kept.count in omega (arith, sum, so_far));
    }

pub returns-clause-count : goal.returns-clause-count
returns-clause-count c =
    let rows = c.args.rows.now in
    let kept = c.loop-row.invariant in
    let whole = take_all c.loop-row.row-index rows c.loop-row-test.false in
    sym kept.count ∙ count_all c.loop-row.marks rows (rw kept.times c.requires.rows) (λ time. rw whole at (kept.marked time)) (omega (arith, kept.times, c.requires.clock))
