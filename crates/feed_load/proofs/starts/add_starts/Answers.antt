use Rattle.std.proofs.Common.{◌≡◌, ℕ, ◌+◌, ◌*◌, ◌||◌, ◌∙◌, arith}
use Rattle.feed_load.specs.Marks.{is_marked}
use Rattle.feed_load.specs.Starts.{is_start_of}
use Rattle.feed_load.proofs.MarkLemmas.{all_marked, list_fresh, list_stale, marked_before, not_marked, turn_marked}
use Rattle.feed_load.proofs.StartLemmas.{cut_at}
use Rattle.feed_load.proofs.starts.add_starts.Goals as goal
use Rattle.feed_load.proofs.starts.add_starts.Goals.{then-mark+in_ok-push, else-mark}

pub loop-turn-preserved : goal.loop-turn-preserved
loop-turn-preserved c =
    let row = c.args.row.now in
    let turn = c.loop-turn.turn in
    let mid = c.loop-turn.marks in
    let new = c.mark.new.self in
    let time : ℕ = row.start + turn * row.headway in
    let kept = c.loop-turn.invariant in
    let made = c.mark.ensures in
    let marked : (other : ℕ) → is_marked new other ≡ (is_start_of other (cut_at row (turn + 1)) || is_marked c.args.marks.now other) =
    λ other. turn_marked row turn other (is_marked new other) (is_marked mid other) (is_marked c.args.marks.now other) c.requires.row.headway (made.marked other) (kept.marked other) in
    elim c.if-mark.branch [
      | then-mark+in_ok-push w ↦ rw (w.starts-is, w.in_ok-push.ensures.items) (record {
        kept = made.marks;
        times = made.times ∙ kept.times;
        marked = marked;
        listed = list_fresh mid new time made.times made.marked c.loop-turn.starts.items (not_marked (is_marked mid time) c.mark.result made.fresh w.if-mark.true) kept.listed;
      })
      | else-mark w ↦ rw w.starts-is (record {
        kept = made.marks;
        times = made.times ∙ kept.times;
        marked = marked;
        listed = list_stale mid new time made.times made.marked c.loop-turn.starts.items (marked_before (is_marked mid time) c.mark.result made.fresh w.if-mark.false) kept.listed;
      })
    ]

pub returns-clause-marked : goal.returns-clause-marked
returns-clause-marked c = λ time.
    let row = c.args.row.now in
    let last : c.loop-turn.turn ≡ c.turns-turn-end.result = omega (arith, c.loop-turn-test.false, c.loop-turn.auto.turn-end) in
    all_marked row c.turns-turn-end.result time (is_marked c.loop-turn.marks time) (is_marked c.args.marks.now time) c.requires.row.headway c.turns-turn-end.ensures
    (rw last at (c.loop-turn.invariant.marked time))
