use Rattle.std.proofs.Common.{length, ◌+◌, ◌-◌, ℕ, List}
use Rattle.raptor_rounds.specs.declared.node.Node.{Node}
use Rattle.raptor_rounds.specs.States.{AreBagsIn, CoverStill, bag_at}
use Rattle.raptor_rounds.proofs.bags.make_bags.Given as goal

abbrev pub invariant-loop-alloc : goal.invariant-loop-alloc
invariant-loop-alloc l =
    ((arena : List Node) (stop : ℕ) → AreBagsIn arena stop l.initial.bags.items → AreBagsIn arena stop l.bags.items) × CoverStill (bag_at l.initial.bags.items) (bag_at l.bags.items)

abbrev pub decreases-loop-alloc : goal.decreases-loop-alloc
decreases-loop-alloc l = l.place + 1 - length l.bags.items
