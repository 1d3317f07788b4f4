use Rattle.std.proofs.Common.{rules, ◌∙◌}
use Rattle.std.proofs.lemmas.Fn.{always_returns_same}
use Rattle.snapshot_store.proofs.SearchLemmas.{beside, change_found}
use Rattle.snapshot_store.proofs.changed.is_changed.Goals as goal

pub returns : goal.returns
returns c =
    c.is_ok.ensures.value
    ∙ change_found c.args.changes.now c.args.name.now c.binary_search_by.result c.requires c.binary_search_by.ensures.bound
    (c.binary_search_by.ensures.position (beside c.args.name.now) (always_returns_same _ _ _ (λ a r q called. search rules)))
