use Rattle.std.proofs.Common.{◌≡◌, length}
use Rattle.query_form.specs.Pairs.{value_of}
use Rattle.query_form.proofs.pairs.value_of.Given as goal

abbrev pub invariant-loop-pair : goal.invariant-loop-pair
invariant-loop-pair l = value_of l.left l.name ≡ value_of l.pairs l.name

abbrev pub decreases-loop-pair : goal.decreases-loop-pair
decreases-loop-pair l = length l.left
