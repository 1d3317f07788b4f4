use Rattle.walk_table.specs.Near.{AreAllNumbers}
use Rattle.walk_table.proofs.near.all_numbers.Given as goal

abbrev pub invariant-loop-number : goal.invariant-loop-number
invariant-loop-number l = AreAllNumbers l.number l.numbers.items
