use Rattle.std.proofs.Common.{◌≡◌, ◌<◌, ◌∙◌, ℕ, [], get_or, length, sym, subst, arith}
use Rattle.std.proofs.lemmas.List.{get_or_default, length-map}
use Rattle.std.proofs.lemmas.Option.{slice_get-get_or}
use Rattle.std.specs.Arc.{arc_value}
use Rattle.snapshot_store.specs.Snapshots.{blocks_of, shape_at, shapes_of}
use Rattle.snapshot_store.proofs.snapshot.SnapshotTimetable.shape_of.Goals as goal

pub returns-clause-within : goal.returns-clause-within
returns-clause-within c =
    let snapshot = c.args.self.now in
    let b = c.args.block in
    let less : b < length snapshot.shape_of.items = omega (arith, snapshot.numbered, length-map snapshot.blocks.items arc_value, c.requires) in
    let same : c.index.result.now ≡ shape_at snapshot b = c.index.ensures ∙ get_or_default snapshot.shape_of.items b c.index.result.now 0 less in
    subst (λ (n : ℕ). n < length (shapes_of snapshot)) (sym same)
    (snapshot.shaped.each b (get_or (blocks_of snapshot) b []) (slice_get-get_or (blocks_of snapshot) b [] c.requires)).within
