use Rattle.std.proofs.Common.{arith, ◌^◌}
use Rattle.std.proofs.Math.Nat.{div-le_self}
use Rattle.walk_table.proofs.walks.seconds_over.Goals as goal

pub overflow_cast-result : goal.overflow_cast-result
overflow_cast-result c =
    let least = c.distance.ensures.least (2 ^ 23) (omega arith) in
    omega (arith, least, div-le_self c.distance.result c.args.speed)
