use Rattle.std.proofs.Common.{rules}
use Rattle.std.specs.Ordering.{is_lt}
use Rattle.std.proofs.lemmas.Fn.{always_returns_same}
use Rattle.std.proofs.lemmas.List.Sorted.{ranks_by}
use Rattle.otp_model.specs.declared.timetable.Run.{Run}
use Rattle.trip_patterns.specs.Lanes.{empty_lane}
use Rattle.snapshot_store.specs.Order.{lane_cmp}
use Rattle.snapshot_store.proofs.SearchLemmas.{lane_cmp_total}
use Rattle.snapshot_store.proofs.order.sort_by_block.Goals as goal

pub returns-clause-sorted : goal.returns-clause-sorted
returns-clause-sorted c =
    c.in_ok-sort_by.ensures.sorted (λ (a b : Run). is_lt (lane_cmp (empty_lane a) (empty_lane b))) (ranks_by lane_cmp_total empty_lane) (always_returns_same _ _ _ (λ a r q called. search rules))
