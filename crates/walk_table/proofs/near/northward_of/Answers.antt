use Rattle.std.proofs.Common.{to_z, of_z, w64}
use Rattle.walk_table.proofs.NearLemmas.{standings_sorted}
use Rattle.walk_table.proofs.near.northward_of.Goals as goal

pub returns : goal.returns
returns c =
    standings_sorted (to_z w64 (of_z w64 c.south_of-south.result)) c.args.stops.now c.in_ok-standings.standings.items _
    c.in_ok-standings.ensures.each c.in_ok-standings.ensures.count c.sort_northward.ensures.permutation c.in_ok-sort_northward.ensures.rise
