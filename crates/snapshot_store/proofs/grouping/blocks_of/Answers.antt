use Rattle.std.proofs.Common.{◌≡◌, ◌+◌, ◌≤◌, ◌∙◌, ℕ, ap, sym, subst, map, length}
use Rattle.std.specs.Arc.{arc_value}
use Rattle.std.specs.List.Sorted.{IsPermutation}
use Rattle.std.proofs.lemmas.List.Sorted.{sum_by-IsPermutation}
use Rattle.std.proofs.lemmas.Result.{IfOk-weaker, on_ok_weaker}
use Rattle.otp_model.specs.declared.timetable.Run.{Run}
use Rattle.snapshot_store.proofs.BlockLemmas.{calls_in, in_order}
use Rattle.snapshot_store.proofs.grouping.blocks_of.Goals as goal

pub returns-clause-blocks : goal.returns-clause-blocks
returns-clause-blocks g c =
    let moved : IsPermutation c.args.runs.items c.deref.result.now = subst (IsPermutation c.args.runs.items) (sym c.deref.ensures.value) c.in_ok-sort_by_block.ensures.moved in
    IfOk-weaker c.blocks_in_order.result _ _ (λ blocks stand. in_order c.args.runs.items c.deref.result.now (map arc_value blocks.items) moved stand) c.blocks_in_order.ensures.blocks

pub returns-clause-counted : goal.returns-clause-counted
returns-clause-counted g c =
    let moved : IsPermutation c.args.runs.items c.deref.result.now = subst (IsPermutation c.args.runs.items) (sym c.deref.ensures.value) c.in_ok-sort_by_block.ensures.moved in
    let same : calls_in c.deref.result.now ≡ calls_in c.args.runs.items = sum_by-IsPermutation (λ (run : Run). length run.calls) c.args.runs.items c.deref.result.now moved in
    on_ok_weaker c.blocks_in_order.result (λ is. is ∙ ap (λ (n : ℕ). c.args.steps.now + n) same) c.blocks_in_order.ensures.counted

pub returns-clause-most : goal.returns-clause-most
returns-clause-most g c =
    let moved : IsPermutation c.args.runs.items c.deref.result.now = subst (IsPermutation c.args.runs.items) (sym c.deref.ensures.value) c.in_ok-sort_by_block.ensures.moved in
    let same : calls_in c.deref.result.now ≡ calls_in c.args.runs.items = sum_by-IsPermutation (λ (run : Run). length run.calls) c.args.runs.items c.deref.result.now moved in
    subst (λ (n : ℕ). c.blocks_in_order.new.steps ≤ c.args.steps.now + n) same c.blocks_in_order.ensures.most
