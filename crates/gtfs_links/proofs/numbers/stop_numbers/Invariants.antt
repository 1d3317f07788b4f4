use Rattle.std.proofs.Common.{◌≡◌, take}
use Rattle.gtfs_links.specs.Index.{stop_of_time}
use Rattle.gtfs_links.specs.Keys.{numbers_in}
use Rattle.gtfs_links.proofs.numbers.stop_numbers.Given as goal

abbrev pub invariant-loop-row : goal.invariant-loop-row
invariant-loop-row l = l.numbers.items ≡ numbers_in l.stops stop_of_time (take l.row-index l.rows)
