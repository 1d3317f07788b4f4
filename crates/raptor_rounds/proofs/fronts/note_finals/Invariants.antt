use Rattle.raptor_rounds.specs.States.{AreFronts}
use Rattle.raptor_rounds.proofs.fronts.note_finals.Given as goal

abbrev pub invariant-loop-number : goal.invariant-loop-number
invariant-loop-number l = AreFronts l.finals l.initial.fronts.items → AreFronts l.finals l.fronts.items
