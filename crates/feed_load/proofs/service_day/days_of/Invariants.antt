use Rattle.std.proofs.Common.{◌≡◌, ◌+ℤ◌, pos, map}
use Rattle.std.specs.List.{All, range_with_len}
use Rattle.feed_load.specs.Runs.{IsSoundDay, service_day}
use Rattle.feed_load.proofs.service_day.days_of.Given as goal

abbrev pub invariant-loop-n : goal.invariant-loop-n
invariant-loop-n l = record {
  days : l.days.items ≡ map (λ n. service_day l.tables l.options.zone (l.options.first_day +ℤ pos n)) (range_with_len 0 l.n);
  sound : All IsSoundDay l.days.items;
}
