use Rattle.std.proofs.Common.{rules}
use Rattle.std.proofs.lemmas.List.Sorted.{answers_always}
use Rattle.feed_load.proofs.OrderFacts.{in_order_from_sorted}
use Rattle.feed_load.proofs.trips.sort_by_sequence.Goals as goal

pub returns-clause-ordered : goal.returns-clause-ordered
returns-clause-ordered c =
    let made = c.in_ok-sort_by_key.ensures in
    in_order_from_sorted c.args.rows.now.items c.sort_by_key.new.self.items c.requires made.permutation (made.sorted (λ row. row.seq) (answers_always _ _ _ (λ f a r g h. search rules)))
