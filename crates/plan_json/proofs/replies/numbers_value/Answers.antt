use Rattle.serde_json.specs.View.{view}
use Rattle.plan_json.specs.Replies.{number_data}
use Rattle.plan_json.proofs.DataFacts.{one-more}
use Rattle.plan_json.proofs.replies.numbers_value.Goals as goal

pub loop-number-preserved : goal.loop-number-preserved
loop-number-preserved c =
    one-more view number_data c.loop-number.values.items c.push.new.self.items c.from.result c.args.numbers.now c.loop-number.number-index 0 c.loop-number-test.true
    c.loop-number.invariant c.in_ok-push.ensures.items c.from.ensures
