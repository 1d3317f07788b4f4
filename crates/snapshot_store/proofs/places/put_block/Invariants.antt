use Rattle.std.proofs.Common.{◌≡◌, [], ◌++◌, get_or, ℕ}
use Rattle.snapshot_store.specs.Places.{places_in}
use Rattle.snapshot_store.proofs.places.put_block.Given as goal

abbrev pub invariant-loop-position : goal.invariant-loop-position
invariant-loop-position l = (stop : ℕ) → get_or l.places.items stop [] ≡ get_or l.initial.places.items stop [] ++ places_in stop l.block l.pattern l.position
