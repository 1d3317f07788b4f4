use Rattle.std.proofs.Common.{length, ◌≡◌, ◌+◌}
use Rattle.gtfs_records.specs.Fields.{digit_count_of}
use Rattle.gtfs_records.proofs.fields.digit_count.Given as goal

abbrev pub invariant-loop-left : goal.invariant-loop-left
invariant-loop-left l = record {
  place : l.count + length l.left ≡ length l.bytes;
  count : l.count + digit_count_of l.left ≡ digit_count_of l.bytes;
}

abbrev pub decreases-loop-left : goal.decreases-loop-left
decreases-loop-left l = length l.left
