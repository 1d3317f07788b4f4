use Rattle.std.proofs.Common.{◌≤◌, ◌^◌, length, arith, lit<}
use Rattle.std.proofs.Math.Nat.{pow-le-pow_right}
use Rattle.gtfs_records.proofs.fields.headway.Goals as goal

pub returns-clause-range : goal.returns-clause-range
returns-clause-range c =
    let short : length c.args.bytes.now ≤ 6 = omega arith in
    let six : 10 ^ length c.args.bytes.now ≤ 10 ^ 6 = pow-le-pow_right {n = 10} (lit< tt) short in
    (omega arith, omega (arith, c.in_ok-seconds.ensures.small, six))
