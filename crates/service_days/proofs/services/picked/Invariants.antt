use Rattle.std.proofs.Common.{◌≡◌, length, map}
use Rattle.std.specs.List.{filter}
use Rattle.name_index.proofs.SightFacts.{noted_all}
use Rattle.otp_model.specs.Sights.{first_sights}
use Rattle.service_days.proofs.services.picked.Given as goal

abbrev pub invariant-loop-left : goal.invariant-loop-left
invariant-loop-left g l =
    noted_all l.names (map g.R.Row.ServiceRow.service_of (filter (g.R.Rule.picks l.rule) l.left))
    ≡ first_sights (map g.R.Row.ServiceRow.service_of (filter (g.R.Rule.picks l.rule) l.rows))

abbrev pub decreases-loop-left : goal.decreases-loop-left
decreases-loop-left g l = length l.left
