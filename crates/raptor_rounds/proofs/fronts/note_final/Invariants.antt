use Rattle.std.proofs.Common.{List}
use Rattle.std.specs.List.{Contains}
use Rattle.raptor_rounds.specs.States.{AreFronts}
use Rattle.raptor_rounds.specs.declared.node.Final.{Final}
use Rattle.raptor_rounds.proofs.fronts.note_final.Given as goal

abbrev pub invariant-loop-rides : goal.invariant-loop-rides
invariant-loop-rides l = (finals : List Final) → Contains finals l.found → AreFronts finals l.initial.fronts.items → AreFronts finals l.fronts.items
