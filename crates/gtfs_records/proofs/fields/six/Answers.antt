use Rattle.std.proofs.Common.{rules}
use Rattle.gtfs_records.proofs.DigitFacts.{six_parts}
use Rattle.gtfs_records.proofs.fields.six.Goals as goal

pub returns : goal.returns
returns c = rw c.copy_from_slice.ensures.after (six_parts c.args.digits.now c.min-count.result (search rules))
