use Rattle.std.proofs.Common.{◌∙◌, sym, subst, ap}
use Rattle.std.proofs.lemmas.List.Elements.{All-get_or}
use Rattle.serde_json.specs.View.{view}
use Rattle.plan_json.specs.Journeys.{IsLegOf, leg_data}
use Rattle.plan_json.proofs.DataFacts.{one-more}
use Rattle.plan_json.proofs.journeys.legs_value.Goals as goal

pub leg_value-requires : goal.leg_value-requires
leg_value-requires c =
    subst (IsLegOf c.args.feed.now) (sym c.leg-item.is)
    (All-get_or (IsLegOf c.args.feed.now) c.args.legs.now c.loop-leg.leg-index c.leg-item.result c.loop-leg-test.true c.requires)

pub loop-leg-preserved : goal.loop-leg-preserved
loop-leg-preserved c =
    one-more view (leg_data c.args.feed.now) c.loop-leg.values.items c.push.new.self.items c.in_ok-value.value c.args.legs.now c.loop-leg.leg-index c.leg-item.result c.loop-leg-test.true
    c.loop-leg.invariant c.in_ok-push.ensures.items (c.in_ok-value.ensures ∙ ap (leg_data c.args.feed.now) c.leg-item.is)
