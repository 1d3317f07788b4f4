use Rattle.std.proofs.Common.{List, subst}
use Rattle.std.specs.Result.{OnOk}
use Rattle.label_bags.specs.declared.label.Label.{Label}
use Rattle.label_bags.specs.Bags.{IsUpheld}
use Rattle.label_bags.proofs.BagLemmas.{apart_after, upheld_after}
use Rattle.label_bags.proofs.bag.Bag.insert.Goals as goal

pub invariant_of-self : goal.invariant_of-self
invariant_of-self c =
    apart_after c.self.inside.labels.items c.args.label c.insert_label.new.labels.items c.insert_label.result c.self.invariant c.insert_label.ensures.ok c.insert_label.ensures.err

pub returns-clause-upheld : goal.returns-clause-upheld
returns-clause-upheld c =
    let new = c.insert_label.new.labels.items in
    subst (λ (old : List Label). OnOk c.insert_label.result (IsUpheld old c.args.label new)) c.self.view_is
    (upheld_after c.self.inside.labels.items c.args.label new c.insert_label.result c.insert_label.ensures.ok)
