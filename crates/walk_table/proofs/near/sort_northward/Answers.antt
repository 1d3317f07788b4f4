use Rattle.std.proofs.Common.{rules}
use Rattle.std.proofs.lemmas.List.Sorted.{IsNonDecreasingBy-from_sort_by_key}
use Rattle.walk_table.specs.declared.near.Standing.{Standing}
use Rattle.walk_table.proofs.near.sort_northward.Goals as goal

pub returns-clause-rise : goal.returns-clause-rise
returns-clause-rise c = IsNonDecreasingBy-from_sort_by_key (λ (s : Standing). s.north) c.sort_by_key.new.self.items (c.in_ok-sort_by_key.ensures.sorted) (search rules)
