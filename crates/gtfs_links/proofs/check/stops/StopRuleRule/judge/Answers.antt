use Rattle.otp_model.specs.Sights.{has_name}
use Rattle.gtfs_links.specs.Rules.{id_of_stop, stop_rule}
use Rattle.gtfs_links.proofs.IndexFacts.{id_repeats}
use Rattle.gtfs_links.proofs.JudgeFacts.{row_is}
use Rattle.gtfs_links.proofs.RuleFacts.{stop_none}
use Rattle.gtfs_links.proofs.check.stops.StopRuleRule.judge.Goals as goal

pub returns : goal.returns
returns c = λ fine row at.
    let stops = c.args.self.now.stops.now in
    let rows = c.args.rows.now in
    let repeats = id_repeats id_of_stop stops rows (stop_rule (has_name stops)) (λ before r h. stop_none _ (has_name stops) r h) c.requires.rows c.args.place row c.requires.place at fine in
    rw (c.place.ensures.place, c.as_str.ensures, row_is rows c.args.place c.index-rows-place.result row c.index-rows-place.is at, repeats) at c.wrong_stop.ensures
