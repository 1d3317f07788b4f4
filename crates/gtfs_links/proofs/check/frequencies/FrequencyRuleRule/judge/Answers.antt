use Rattle.gtfs_links.specs.Index.{trip_of_frequency}
use Rattle.gtfs_links.proofs.JudgeFacts.{number_told, start_repeats}
use Rattle.gtfs_links.proofs.check.frequencies.FrequencyRuleRule.judge.Goals as goal

pub returns : goal.returns
returns c = λ fine row at.
    let it = c.args.self.now in
    let rows = c.args.rows.now in
    let repeats = start_repeats it.indexes.now it.trips.now it.first_repeat rows c.requires.rows c.args.place row c.requires.place at fine in
    let known = number_told it.indexes.now.trips trip_of_frequency it.trips.now rows c.args.place row c.requires.rows.trips_are c.requires.place at in
    rw (c.has_number-has_trip.ensures, repeats, known) at c.wrong_start.ensures
