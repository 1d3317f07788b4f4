use Rattle.std.proofs.Common.{◌≡◌, map, take}
use Rattle.serde_json.specs.View.{view}
use Rattle.plan_json.specs.Journeys.{leg_data}
use Rattle.plan_json.proofs.journeys.legs_value.Given as goal

abbrev pub invariant-loop-leg : goal.invariant-loop-leg
invariant-loop-leg l = map view l.values.items ≡ map (leg_data l.feed) (take l.leg-index l.legs)
