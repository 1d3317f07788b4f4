use Rattle.std.proofs.Common.{◌≡◌, ◌++◌, ℕ, List, length, map}
use Rattle.name_index.proofs.SightFacts.{noted_all}
use Rattle.otp_model.specs.Sights.{first_sights}
use Rattle.service_days.proofs.services.note_services.Given as goal

abbrev pub invariant-loop-left : goal.invariant-loop-left
invariant-loop-left g l =
    (seen : List (List ℕ)) → l.initial.names ≡ first_sights seen
    → noted_all l.names (map g.R.ServiceRow.service_of l.left) ≡ first_sights (seen ++ map g.R.ServiceRow.service_of l.rows)

abbrev pub decreases-loop-left : goal.decreases-loop-left
decreases-loop-left g l = length l.left
