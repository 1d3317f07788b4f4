use Rattle.std.proofs.Common.{◌≡◌, List, inr, subst, ◌∙◌}
use Rattle.std.proofs.lemmas.Result.{IfErr-weaker}
use Rattle.std.specs.Prelude.{IfErr}
use Rattle.feed_load.specs.Loaded.{IfTold, IsLinkedFault, IsTablesFault}
use Rattle.feed_load.specs.Runs.{days_of}
use Rattle.feed_load.specs.declared.service_day.ServiceDay.{ServiceDay}
use Rattle.feed_load.proofs.LinkedFacts.{told_weaker}
use Rattle.feed_load.proofs.loading.load_tables.Goals as goal

pub returns-clause-fault : goal.returns-clause-fault
returns-clause-fault c =
    let options = c.args.options.now in
    let tables = c.args.tables in
    let linked = c.in-Ok.linked in
    let links = rw c.as_str.ensures at c.in-Ok.ensures.links in
    let days : c.deref.result.now ≡ days_of tables options = c.deref.ensures.value ∙ c.in-Ok-days_of.ensures.days in
    let fault = subst (λ (ds : List ServiceDay). IfErr c.load_linked.result (IfTold (IsLinkedFault options ds linked))) days c.load_linked.ensures.fault in
    IfErr-weaker c.load_linked.result (IfTold (IsLinkedFault options (days_of tables options) linked)) (IfTold (IsTablesFault options tables))
    (λ fault h. told_weaker (IsLinkedFault options (days_of tables options) linked) (IsTablesFault options tables) fault (λ told k. inr (linked, links, k)) h) fault
