use Rattle.gtfs_links.proofs.JudgeFacts.{date_repeats}
use Rattle.gtfs_links.proofs.check.dates.DateRuleRule.judge.Goals as goal

pub returns : goal.returns
returns c = λ fine row at. rw (date_repeats c.args.self.now.first_repeat c.args.rows.now c.requires.rows c.args.place row c.requires.place at fine) at c.wrong_if.ensures
