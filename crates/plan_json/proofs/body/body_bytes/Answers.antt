use Rattle.std.proofs.Common.{◌∙◌, ap}
use Rattle.serde_json.specs.Written.{compact_text, has_float}
use Rattle.plan_json.proofs.DataFacts.{none-body}
use Rattle.plan_json.proofs.body.body_bytes.Goals as goal

pub returns : goal.returns
returns c =
    let is = c.in_ok-value.ensures in
    c.from_vec.ensures ∙ (c.in_ok-bytes.ensures.text (ap has_float is ∙ none-body c.args.feed.now c.args.body.now) ∙ ap compact_text is)
