use Rattle.std.proofs.Common.{ℕ, ◌+◌, true, false, length, set, take, ap, sym, subst, ◌∙◌}
use Rattle.std.proofs.lemmas.List.{length-replicate}
use Rattle.std.proofs.lemmas.List.Elements.{All-nil}
use Rattle.snapshot_store.specs.Marks.{AreMarked, IsMarked}
use Rattle.snapshot_store.proofs.MarkLemmas.{marked_more}
use Rattle.snapshot_store.proofs.changed.marks_of.Goals as goal

pub loop-change-init : goal.loop-change-init
loop-change-init c = record { count = ap length (c.in_ok-marks.ensures.items_if_clones_equal (λ y same. same)) ∙ length-replicate 65536 false; set = All-nil (IsMarked c.in_ok-marks.marks.items) }

pub loop-change-preserved : goal.loop-change-preserved
loop-change-preserved c =
    subst (λ (place : ℕ). AreMarked (take (c.loop-change.change-index + 1) c.args.changes.now) (set c.loop-change.marks.items place true)) (sym c.mark_of.ensures.place)
    (marked_more c.args.changes.now c.loop-change.marks.items c.loop-change.change-index c.change-item.result c.loop-change-test.true c.change-item.is c.loop-change.invariant)
