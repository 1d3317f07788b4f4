use Rattle.otp_model.specs.Sights.{has_name}
use Rattle.gtfs_links.specs.Rules.{id_of_trip, trip_rule}
use Rattle.gtfs_links.proofs.IndexFacts.{id_repeats}
use Rattle.gtfs_links.proofs.JudgeFacts.{row_is}
use Rattle.gtfs_links.proofs.RuleFacts.{trip_none}
use Rattle.gtfs_links.proofs.check.trips.TripRuleRule.judge.Goals as goal

pub returns : goal.returns
returns c = λ fine row at.
    let ix = c.args.self.now.indexes.now in
    let rows = c.args.rows.now in
    let repeats = id_repeats id_of_trip ix.trips rows (trip_rule (has_name ix.routes) (has_name ix.services)) (λ before r h. trip_none _ (has_name ix.routes) (has_name ix.services) r h) c.requires.rows c.args.place row c.requires.place at fine in
    rw (c.place.ensures.place, c.as_str.ensures, row_is rows c.args.place c.index-rows-place.result row c.index-rows-place.is at, repeats) at c.wrong_trip.ensures
