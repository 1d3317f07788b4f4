use Rattle.std.proofs.Common.{◌∙◌, List, ℕ, ap}
use Rattle.feed_load.specs.Runs.{is_among}
use Rattle.feed_load.proofs.AmongFacts.{among_found}
use Rattle.feed_load.proofs.service_day.ServiceDay.has.Goals as goal

pub returns : goal.returns
returns c =
    c.is_ok.ensures.value
    ∙ (among_found c.as_slice.result.now c.args.service c.binary_search.result (rw c.as_slice.ensures c.requires) c.binary_search.ensures.position
    ∙ ap (λ (services : List ℕ). is_among services c.args.service) c.as_slice.ensures)
