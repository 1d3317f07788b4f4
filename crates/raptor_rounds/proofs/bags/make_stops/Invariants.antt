use Rattle.std.proofs.Common.{length, ◌+◌, ◌-◌, ℕ, List}
use Rattle.std.specs.List.{slice_get}
use Rattle.raptor_rounds.specs.declared.node.Node.{Node}
use Rattle.raptor_rounds.specs.States.{AreBags, CoverStill, bag_in}
use Rattle.raptor_rounds.proofs.bags.make_stops.Given as goal

abbrev pub invariant-loop-alloc : goal.invariant-loop-alloc
invariant-loop-alloc l =
    ((arena : List Node) → AreBags arena l.initial.bags.items → AreBags arena l.bags.items) × ((stop : ℕ) → CoverStill (bag_in (slice_get l.initial.bags.items stop)) (bag_in (slice_get l.bags.items stop)))

abbrev pub decreases-loop-alloc : goal.decreases-loop-alloc
decreases-loop-alloc l = l.stop + 1 - length l.bags.items
