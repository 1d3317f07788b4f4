use Rattle.std.proofs.Common.{◌+◌, eqb, subst, arith}
use Rattle.std.proofs.lemmas.List.Filters.{dedup_is}
use Rattle.walk_table.specs.Near.{AreNumbersFrom}
use Rattle.walk_table.proofs.NearLemmas.{numbers_all}
use Rattle.walk_table.proofs.near.numbers_around.Goals as goal

pub returns : goal.returns
returns c =
    let from = subst (λ reach. AreNumbersFrom c.args.standings.now c.first_north-start.result (c.args.north + reach) c.in_ok-numbers.numbers.items)
    c.from-2.ensures c.in_ok-numbers.ensures in
    rw (dedup_is eqb c.sort_unstable.new.self.items c.dedup.new.self.items c.dedup.ensures.filtered) (numbers_all c.args.standings.now c.args.north c.args.reach c.saturating_sub-low.result c.first_north-start.result c.in_ok-numbers.numbers.items c.sort_unstable.new.self.items
    (omega arith) c.first_north-start.ensures from c.sort_unstable.ensures.permutation c.sort_unstable.ensures.sorted)
