use Rattle.std.proofs.Common.{◌≡◌, length, map}
use Rattle.name_index.proofs.SightFacts.{noted_all}
use Rattle.otp_model.specs.Sights.{first_sights}
use Rattle.rt_resolve.proofs.lookup.index_of.Given as goal

abbrev pub invariant-loop-left : goal.invariant-loop-left
invariant-loop-left g l = noted_all l.ids (map g.R.Identified.id_of l.left) ≡ first_sights (map g.R.Identified.id_of l.rows)

abbrev pub decreases-loop-left : goal.decreases-loop-left
decreases-loop-left g l = length l.left
