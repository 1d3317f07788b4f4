use Rattle.std.proofs.Common.{rules}
use Rattle.std.proofs.lemmas.Fn.{filter_same}
use Rattle.label_bags.proofs.bag.drop_covered.Goals as goal

pub returns-clause-labels : goal.returns-clause-labels
returns-clause-labels c = filter_same _ _ _ (λ x b f' k. search rules) _ _ c.retain.ensures.filtered
