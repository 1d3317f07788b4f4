use Rattle.std.proofs.Common.{◌∙◌, sym, subst, ap}
use Rattle.std.proofs.lemmas.List.Elements.{All-get_or}
use Rattle.serde_json.specs.View.{view}
use Rattle.plan_json.specs.Journeys.{journey_data}
use Rattle.plan_json.specs.Plan.{IsFoundOf}
use Rattle.plan_json.proofs.DataFacts.{one-more}
use Rattle.plan_json.proofs.body.journeys_value.Goals as goal

pub journey_value-requires : goal.journey_value-requires
journey_value-requires c =
    (subst (IsFoundOf c.args.feed.now c.args.number) (sym c.journey-item.is)
    (All-get_or (IsFoundOf c.args.feed.now c.args.number) c.args.found.now c.loop-journey.journey-index c.journey-item.result c.loop-journey-test.true c.requires)).legs

pub loop-journey-preserved : goal.loop-journey-preserved
loop-journey-preserved c =
    one-more view (journey_data c.args.feed.now) c.loop-journey.values.items c.push.new.self.items c.in_ok-value.value c.args.found.now c.loop-journey.journey-index c.journey-item.result c.loop-journey-test.true
    c.loop-journey.invariant c.in_ok-push.ensures.items (c.in_ok-value.ensures ∙ ap (journey_data c.args.feed.now) c.journey-item.is)
