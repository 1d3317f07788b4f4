use Rattle.plan_json.proofs.DataFacts.{behind-fits}
use Rattle.plan_json.proofs.body.plan_value.Goals as goal

pub cursor_value-requires : goal.cursor_value-requires
cursor_value-requires c = rw (c.cursor_behind.ensures, c.as_slice-2.ensures) (behind-fits c.args.feed.now c.args.number c.args.page.now.found c.requires)
