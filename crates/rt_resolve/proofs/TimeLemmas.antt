-- Sums of times and delays stay in range.
use Rattle.std.proofs.Common.{◌≡◌, ◌^◌, ℤ, ◌+ℤ◌, w64, to_z, of_z, arith}
use Rattle.std.proofs.lemmas.Int.{ints}
use Rattle.otp_model.specs.Rows.{IsWithin}

pub later : (time delay : ℤ) → IsWithin (2 ^ 36) time → IsWithin (2 ^ 41) delay
    → to_z w64 (of_z w64 (to_z w64 (of_z w64 time) +ℤ to_z w64 (of_z w64 delay))) ≡ time +ℤ delay
later time delay near short = omega (arith, ints, near.low, near.high, short.low, short.high)
