use Rattle.std.proofs.Common.{ℤ, subst, w64}
use Rattle.std.proofs.lemmas.Int.{to_z-of_z}
use Rattle.lane_kernels.specs.Columns.{IsFirstAtLeast}
use Rattle.trip_patterns.proofs.ReadLemmas.{first_is_caught}
use Rattle.trip_patterns.proofs.lane.Lane.first_catch.Goals as goal

pub returns : goal.returns
returns c =
    first_is_caught c.args.self.now.runs c.args.position c.args.time c.departures.result.now c.first_at_least.result c.departures.ensures
    (subst (λ (t : ℤ). IsFirstAtLeast c.departures.result.now t c.first_at_least.result) (to_z-of_z w64 c.args.time c.ranges.time) c.first_at_least.ensures)
