use Rattle.std.proofs.Common.{◌≡◌, List, [], get_or, ◌∙◌, ap, sym, subst}
use Rattle.std.proofs.lemmas.Bool.{ltb-true}
use Rattle.std.proofs.lemmas.List.{get_or_default, get_or_past}
use Rattle.trip_patterns.specs.declared.timetable.BlockStop.{BlockStop}
use Rattle.trip_patterns.specs.Timetables.{ArePlacesOf}
use Rattle.snapshot_store.specs.Places.{places_of}
use Rattle.snapshot_store.specs.Snapshots.{blocks_of}
use Rattle.snapshot_store.proofs.IndexLemmas.{are_places}
use Rattle.snapshot_store.proofs.snapshot.SnapshotTimetable.blocks_at.Goals as goal

pub returns-in-Some : goal.returns-in-Some
returns-in-Some c =
    let stop = c.args.stop in
    let look = c.in-Some.ensures.lookup in
    let kept : places_of (blocks_of c.args.self.now) stop ≡ get_or c.deref.result.now stop []
    = sym (c.args.self.now.indexed.each stop) ∙ ap (λ (xs : List (List BlockStop)). get_or xs stop []) (sym c.deref.ensures.value) in
    let read : c.in-Some.places.now ≡ get_or c.deref.result.now stop [] = look.1 ∙ get_or_default c.deref.result.now stop c.in-Some.places.now [] (ltb-true _ _ (sym look.0)) in
    subst (ArePlacesOf (blocks_of c.args.self.now) stop) (kept ∙ sym read ∙ sym c.as_slice.ensures)
    (are_places (blocks_of c.args.self.now) stop c.args.self.now.blocks_are)

pub returns-in-None : goal.returns-in-None
returns-in-None c =
    let stop = c.args.stop in
    let kept : places_of (blocks_of c.args.self.now) stop ≡ get_or c.deref.result.now stop []
    = sym (c.args.self.now.indexed.each stop) ∙ ap (λ (xs : List (List BlockStop)). get_or xs stop []) (sym c.deref.ensures.value) in
    subst (ArePlacesOf (blocks_of c.args.self.now) stop) (kept ∙ get_or_past c.deref.result.now stop [] c.in-None.ensures.lookup.3)
    (are_places (blocks_of c.args.self.now) stop c.args.self.now.blocks_are)
