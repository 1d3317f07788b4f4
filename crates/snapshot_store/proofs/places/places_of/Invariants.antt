use Rattle.std.proofs.Common.{◌≡◌, [], map, get_or, ℕ}
use Rattle.std.specs.Arc.{arc_value}
use Rattle.snapshot_store.specs.Places.{places_before}
use Rattle.snapshot_store.proofs.places.places_of.Given as goal

abbrev pub invariant-loop-block : goal.invariant-loop-block
invariant-loop-block l = (stop : ℕ) → get_or l.places.items stop [] ≡ places_before (map arc_value l.blocks) stop l.block
