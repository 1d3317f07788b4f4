use Rattle.std.specs.Ordering.{int_eq}
use Rattle.std.proofs.lemmas.List.Filters.{dedup_is}
use Rattle.raptor_rounds.proofs.MomentLemmas.{rise_in_order, same_in_order}
use Rattle.raptor_rounds.proofs.moments.put_in_order.Goals as goal

pub returns-clause-same : goal.returns-clause-same
returns-clause-same c =
    let sorted = c.sort_unstable.new.self.items in
    let new = c.dedup.new.self.items in
    same_in_order c.args.moments.now.items sorted new c.sort_unstable.ensures.permutation (dedup_is int_eq sorted new c.dedup.ensures.filtered)

pub returns-clause-rise : goal.returns-clause-rise
returns-clause-rise c =
    let sorted = c.sort_unstable.new.self.items in
    let new = c.dedup.new.self.items in
    rise_in_order sorted new c.sort_unstable.ensures.sorted (dedup_is int_eq sorted new c.dedup.ensures.filtered)
