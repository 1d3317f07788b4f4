use Rattle.std.proofs.Common.{◌≡◌, ◌≤◌, take}
use Rattle.std.specs.List.{count_by}
use Rattle.feed_load.specs.Runs.{is_among}
use Rattle.feed_load.proofs.counts.active_days.Given as goal

abbrev pub invariant-loop-day : goal.invariant-loop-day
invariant-loop-day l = record {
  count : l.count ≡ count_by (λ day. is_among day.services l.service) (take l.day-index l.days);
  few : l.count ≤ l.day-index;
}
