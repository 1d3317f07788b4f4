-- Products and quotients of signed numbers stay in range.
use Rattle.std.proofs.Common.{ℕ, ◌*◌, ◌<◌, ◌≤◌, ◌^◌, suc, ℤ, pos, negsuc, ◌*ℤ◌, FitsSigned, w64, arith}
use Rattle.std.specs.Int.{int_div_euclid}
use Rattle.std.proofs.Math.IntN.{pos-*ℤ-pos, negsuc-*ℤ-pos}
use Rattle.std.proofs.Math.Nat.{mul-le-mul, div-le_self}
use Rattle.std.proofs.lemmas.Int.{ints}
use Rattle.otp_model.specs.Rows.{IsWithin}

-- so many times a number in range
pub scaled_within : (limit most : ℕ) (z : ℤ) (n : ℕ) → IsWithin limit z → n ≤ most → IsWithin (limit * most) (z *ℤ pos n)
scaled_within limit most (pos a) n h k =
    let few : a ≤ limit = omega (arith, ints, h.high) in
    let less : a * n ≤ limit * most = mul-le-mul few k in
    rw (pos-*ℤ-pos a n) (record { low = omega (arith, ints, less); high = omega (arith, ints, less) })
scaled_within limit most (negsuc a) n h k =
    let few : suc a ≤ limit = omega (arith, ints, h.low) in
    let less : suc a * n ≤ limit * most = mul-le-mul few k in
    rw (negsuc-*ℤ-pos a n) (record { low = omega (arith, ints, less); high = omega (arith, ints, less) })

-- a part of a number in range
pub part_within : (limit : ℕ) (z : ℤ) (n : ℕ) → IsWithin limit z → IsWithin limit (int_div_euclid z (pos n))
part_within limit (pos a) n h = record { low = omega (arith, ints, h.high, div-le_self a n); high = omega (arith, ints, h.high, div-le_self a n) }
part_within limit (negsuc a) n h = record { low = omega (arith, ints, h.low, div-le_self a n); high = omega (arith, ints, h.low, div-le_self a n) }

-- a thousandth of a number in range
pub thousandth_within : (limit : ℕ) (z : ℤ) → IsWithin (1000 * limit) z → IsWithin limit (int_div_euclid z (pos 1000))
thousandth_within limit (pos a) h = record { low = omega (arith, ints, h.high); high = omega (arith, ints, h.high) }
thousandth_within limit (negsuc a) h = record { low = omega (arith, ints, h.low); high = omega (arith, ints, h.low) }

-- what is in range fits 64 bits
pub fits : (limit : ℕ) (z : ℤ) → limit < 2 ^ 63 → IsWithin limit z → FitsSigned w64 z
fits limit (pos a) few h = record { sfits = omega (arith, ints, h.high) }
fits limit (negsuc a) few h = record { sfits = omega (arith, ints, h.low) }

pub natural_within : (limit n : ℕ) → n ≤ limit → IsWithin limit (pos n)
natural_within limit n h = record { low = omega (arith, ints, h); high = omega (arith, ints, h) }

-- a greater range
pub wider : (limit more : ℕ) (z : ℤ) → limit ≤ more → IsWithin limit z → IsWithin more z
wider limit more z h w = record { low = omega (arith, ints, w.low); high = omega (arith, ints, w.high) }
