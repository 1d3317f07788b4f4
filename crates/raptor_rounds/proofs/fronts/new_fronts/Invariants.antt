use Rattle.std.proofs.Common.{List}
use Rattle.raptor_rounds.specs.States.{AreFronts}
use Rattle.raptor_rounds.specs.declared.node.Final.{Final}
use Rattle.raptor_rounds.proofs.fronts.new_fronts.Given as goal

abbrev pub invariant-loop : goal.invariant-loop
invariant-loop l = (finals : List Final) → AreFronts finals l.fronts.items
