use Rattle.std.proofs.Common.{ℕ, ◌<◌, get_or}
use Rattle.label_bags.specs.declared.label.Label.{Label}
use Rattle.label_bags.specs.Bags.{Covers}
use Rattle.label_bags.proofs.bag.any_covers.Given as goal

abbrev pub invariant-loop-label : goal.invariant-loop-label
invariant-loop-label l = (k : ℕ) (d : Label) → k < l.label-index → Covers (get_or l.labels k d) l.time l.penalty → ⊥
