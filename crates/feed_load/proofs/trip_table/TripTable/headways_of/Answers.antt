use Rattle.std.proofs.Common.{nat_eq, ap, ◌∙◌}
use Rattle.std.proofs.lemmas.List.Elements.{All-filter}
use Rattle.std.proofs.lemmas.Result.{IfOk-weaker}
use Rattle.gtfs_links.specs.declared.feed.HeadwayRow.{HeadwayRow}
use Rattle.feed_load.specs.Starts.{IsHeadway, starts_by, trip_of_headway}
use Rattle.feed_load.proofs.JoinLemmas.{joined_starts}
use Rattle.feed_load.proofs.trip_table.TripTable.headways_of.Goals as goal

pub join_rows-requires : goal.join_rows-requires
join_rows-requires c =
    rw c.in_ok-rows.ensures (λ k d less.
    (All-filter (λ (row : HeadwayRow). nat_eq c.args.trip (trip_of_headway row)) (IsHeadway c.requires.table.0) c.args.self.now.headways.now c.requires.table.1.headways k d less).headway)

pub returns-clause-starts : goal.returns-clause-starts
returns-clause-starts c = IfOk-weaker c.join_rows.result _ _ (λ joined are. joined_starts c.in_ok-rows.rows.items joined.items are ∙ ap starts_by c.in_ok-rows.ensures) c.join_rows.ensures

pub returns-clause-headways : goal.returns-clause-headways
returns-clause-headways c = λ times all. IfOk-weaker c.join_rows.result _ _ (λ joined are.
    are.headways times (rw c.in_ok-rows.ensures (All-filter (λ (row : HeadwayRow). nat_eq c.args.trip (trip_of_headway row)) (IsHeadway times) c.args.self.now.headways.now all))) c.join_rows.ensures
