use Rattle.std.proofs.Common.{arith}
use Rattle.std.proofs.lemmas.Int.{ints}
use Rattle.std.proofs.lemmas.List.Elements.{All-same, All-push}
use Rattle.lane_kernels.specs.Columns.{IsCoordinate}
use Rattle.kernel_bench.proofs.columns.numbers.Goals as goal

pub loop-preserved : goal.loop-preserved
loop-preserved c =
    let low = c.below.ensures.0 in
    let high = c.below.ensures.1 in
    (omega (arith, c.in_ok-push.ensures.len), All-same IsCoordinate _ _ c.in_ok-push.ensures.items (All-push IsCoordinate _ _ c.loop.invariant.1 (omega (arith, ints), omega (arith, ints))))
