use Rattle.std.proofs.Common.{◌≡◌, ℕ, ◌-◌, ◌<◌, ◌≤◌, length, Some}
use Rattle.std.specs.List.{Contains, slice_get}
use Rattle.walk_table.specs.declared.near.Standing.{Standing}
use Rattle.walk_table.proofs.near.numbers_from.Given as goal

abbrev pub invariant-loop-at : goal.invariant-loop-at
invariant-loop-at l = record {
  after : l.start ≤ l.at;
  has : (place : ℕ) (standing : Standing) → l.start ≤ place → place < l.at → slice_get l.standings place ≡ Some standing → Contains l.numbers.items standing.number;
  only : (number : ℕ) → Contains l.numbers.items number → (standing : Standing) × Contains l.standings standing × (number ≡ standing.number);
}

abbrev pub decreases-loop-at : goal.decreases-loop-at
decreases-loop-at l = length l.initial.standings - l.at
