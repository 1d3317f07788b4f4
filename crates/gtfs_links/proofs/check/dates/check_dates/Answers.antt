use Rattle.gtfs_links.proofs.JudgeFacts.{first_date}
use Rattle.gtfs_links.proofs.check.dates.check_dates.Goals as goal

pub check_rows-requires : goal.check_rows-requires
check_rows-requires c = first_date c.args.indexes.now.services c.args.rows.now c.in-Ok.first_repeat c.requires.known c.in-Ok.ensures
