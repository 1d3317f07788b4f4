use Rattle.std.proofs.Common.{List, sym, subst, map}
use Rattle.std.specs.Arc.{arc_value}
use Rattle.std.specs.List.{All, flat_map}
use Rattle.std.specs.List.Sorted.{IsPermutation}
use Rattle.std.proofs.lemmas.List.Sorted.{IsPermutation-trans}
use Rattle.std.proofs.lemmas.Result.{IfOk-weaker}
use Rattle.otp_model.specs.Patterns.{run_changed, with_changes}
use Rattle.otp_model.specs.declared.change.Change.{Change}
use Rattle.otp_model.specs.declared.timetable.Run.{Run}
use Rattle.trip_patterns.specs.FirstFit.{rows_of}
use Rattle.trip_patterns.specs.Timetables.{IsBlock, StandsFor}
use Rattle.snapshot_store.specs.Snapshots.{blocks_of, runs_of}
use Rattle.snapshot_store.proofs.OrderLemmas.{flat_permutation}
use Rattle.snapshot_store.proofs.snapshot.Snapshot.with_changes.Goals as goal

pub renewed_blocks-requires-clause-blocks : goal.renewed_blocks-requires-clause-blocks
renewed_blocks-requires-clause-blocks g c = subst (λ xs. All IsBlock (map arc_value xs)) (sym c.deref.ensures.value) c.args.self.now.blocks_are

pub renewed_blocks-requires-clause-added : goal.renewed_blocks-requires-clause-added
renewed_blocks-requires-clause-added g c =
    subst (λ (changes : List Change). IsPermutation (flat_map run_changed changes) c.deref-2.result.now) (sym c.in_ok-changed.ensures)
    (subst (IsPermutation (flat_map run_changed c.args.changes.now)) (sym c.deref-2.ensures.value)
    (subst (λ (xs : List Run). IsPermutation xs c.sort_by_block.new.runs.items) c.in_ok-added.ensures c.sort_by_block.ensures.moved))

pub returns-clause-stands : goal.returns-clause-stands
returns-clause-stands g c =
    let all = map arc_value c.in_ok-blocks.blocks.items in
    let stand : StandsFor all (with_changes (runs_of c.args.self.now) c.args.changes.now)
    = subst (λ xs. StandsFor all (with_changes (flat_map rows_of (map arc_value xs)) c.args.changes.now)) c.deref.ensures.value
    (subst (λ (changes : List Change). StandsFor all (with_changes (flat_map rows_of (map arc_value c.deref.result.now)) changes)) c.in_ok-changed.ensures c.in_ok-blocks.ensures.stands) in
    IfOk-weaker c.of-2.result _ _
    (λ snapshot is. IsPermutation-trans (with_changes (runs_of c.args.self.now) c.args.changes.now) (flat_map rows_of all) (runs_of snapshot) stand.rows (flat_permutation rows_of all (blocks_of snapshot) is))
    c.of-2.ensures
