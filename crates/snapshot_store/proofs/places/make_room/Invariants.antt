use Rattle.std.proofs.Common.{◌≡◌, [], get_or, length, ◌+◌, ◌-◌, ℕ}
use Rattle.snapshot_store.proofs.places.make_room.Given as goal

abbrev pub invariant-loop-alloc : goal.invariant-loop-alloc
invariant-loop-alloc l = (other : ℕ) → get_or l.places.items other [] ≡ get_or l.initial.places.items other []

abbrev pub decreases-loop-alloc : goal.decreases-loop-alloc
decreases-loop-alloc l = l.stop + 1 - length l.places.items
