use Rattle.std.proofs.Common.{◌≡◌, map, take}
use Rattle.serde_json.specs.View.{view}
use Rattle.plan_json.specs.Journeys.{journey_data}
use Rattle.plan_json.proofs.body.journeys_value.Given as goal

abbrev pub invariant-loop-journey : goal.invariant-loop-journey
invariant-loop-journey l = map view l.values.items ≡ map (journey_data l.feed) (take l.journey-index l.found)
