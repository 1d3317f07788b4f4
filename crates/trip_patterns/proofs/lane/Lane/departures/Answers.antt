use Rattle.std.proofs.Common.{List, map, ap, ◌∙◌, length, ◌<◌, subst, sym}
use Rattle.trip_patterns.specs.declared.row.Row.{Row}
use Rattle.trip_patterns.specs.Lanes.{LaneOf, departure_at}
use Rattle.trip_patterns.specs.Rows.{column}
use Rattle.trip_patterns.proofs.ReadLemmas.{column_is}
use Rattle.trip_patterns.proofs.lane.Lane.departures.Goals as goal

pub returns : goal.returns
returns c =
    let lane = c.self.inside in
    let less : c.args.position < length lane.pattern = subst (λ (l : LaneOf). c.args.position < length l.pattern) (sym c.self.view_is) c.requires in
    c.column_of.ensures ∙ ap (λ (rows : List Row). column rows c.args.position) c.deref-2.ensures.value
    ∙ column_is lane.day lane.pattern lane.rows.items c.args.position c.self.invariant.are_rows less
    ∙ ap (λ (l : LaneOf). map (departure_at c.args.position) l.runs) c.self.view_is
