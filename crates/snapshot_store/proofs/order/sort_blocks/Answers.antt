use Rattle.std.proofs.Common.{rules}
use Rattle.std.specs.Arc.{arc_value}
use Rattle.std.specs.Ordering.{is_lt}
use Rattle.std.proofs.lemmas.Fn.{always_returns_same}
use Rattle.std.proofs.lemmas.List.Sorted.{IsPermutation-map, ranks_by}
use Rattle.snapshot_store.specs.Order.{block_lane, lane_cmp}
use Rattle.snapshot_store.proofs.OrderLemmas.{sorted_blocks}
use Rattle.snapshot_store.proofs.SearchLemmas.{lane_cmp_total}
use Rattle.snapshot_store.proofs.order.sort_blocks.Goals as goal

pub returns-clause-sorted : goal.returns-clause-sorted
returns-clause-sorted c =
    sorted_blocks arc_value c.sort_by.new.self.items
    (c.in_ok-sort_by.ensures.sorted (λ a b. is_lt (lane_cmp (block_lane (arc_value a)) (block_lane (arc_value b)))) (ranks_by lane_cmp_total (λ block. block_lane (arc_value block)))
    (always_returns_same _ _ _ (λ a r q called. search rules)))

pub returns-clause-moved : goal.returns-clause-moved
returns-clause-moved c = IsPermutation-map arc_value c.args.blocks.now.items c.sort_by.new.self.items c.in_ok-sort_by.ensures.permutation
