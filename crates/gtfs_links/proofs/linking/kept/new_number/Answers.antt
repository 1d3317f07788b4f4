use Rattle.std.proofs.Common.{None}
use Rattle.gtfs_links.proofs.KeptFacts.{placed_read, placed_within, trip_within}
use Rattle.gtfs_links.proofs.linking.kept.new_number.Goals as goal

pub bounds-trips-place : goal.bounds-trips-place
bounds-trips-place c = placed_within c.requires.0 c.args.trips.now c.args.kept.now c.args.place c.requires.1

pub bounds-kept-trips : goal.bounds-kept-trips
bounds-kept-trips c = trip_within c.requires.0 c.args.trips.now c.args.kept.now c.args.place c.requires.1

pub returns : goal.returns
returns c = λ number placed. placed_read number None c.args.trips.now c.args.kept.now c.args.place placed
