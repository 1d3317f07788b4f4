use Rattle.std.proofs.Common.{◌%◌, ◌<◌, arith}
use Rattle.std.proofs.lemmas.Int.{ints}
use Rattle.kernel_bench.proofs.columns.below.Goals as goal

pub returns : goal.returns
returns c =
    let small : c.args.drawn % c.args.spread < c.args.spread = omega arith in
    (omega (arith, ints), omega (arith, ints))
