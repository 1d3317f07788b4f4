use Rattle.gtfs_links.specs.Rules.{id_rule}
use Rattle.gtfs_links.proofs.IndexFacts.{id_repeats}
use Rattle.gtfs_links.proofs.JudgeFacts.{row_is}
use Rattle.gtfs_links.proofs.RuleFacts.{repeat_none}
use Rattle.gtfs_links.proofs.check.ids.IdRuleRule.judge.Goals as goal

pub returns : goal.returns
returns g c = λ fine row at.
    let id_of = g.R.Identified.id_of in
    let names = c.args.self.now.names.now in
    let column = c.args.self.now.column in
    let rows = c.args.rows.now in
    let repeats = id_repeats id_of names rows (id_rule id_of column) (λ before r h. repeat_none column _ h) c.requires.rows c.args.place row c.requires.place at fine in
    rw (c.place.ensures.place, c.id.ensures, row_is rows c.args.place c.index-rows-place.result row c.index-rows-place.is at, repeats) at c.wrong_if.ensures
