use Rattle.std.proofs.Common.{length}
use Rattle.gtfs_records.proofs.fields.+digits.Given as goal

abbrev pub decreases-digits : goal.decreases-digits
decreases-digits l = length l.bytes.now
