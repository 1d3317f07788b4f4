-- How large a number of a few digits gets.
use Rattle.std.proofs.Common.{◌≡◌, ℕ, zero, suc, ◌+◌, ◌-◌, ◌*◌, ◌^◌, ◌≤◌, ◌++◌, List, length, take, drop, min, inl, inr, refl, sym, arith}
use Rattle.std.specs.Prelude.{codes}
use Rattle.std.proofs.lemmas.Bool.{cases_lt}
use Rattle.std.proofs.lemmas.List.{append-nil, take-append-le}
use Rattle.std.proofs.Math.Seq.{take-append-add, take-length}
use Rattle.gtfs_records.specs.Fields.{six_of}
use Rattle.std.proofs.Math.Nat.{pow-succ', one-le-pow, mul-le-mul_right, mul-le-mul_left}

pub room : (n d k : ℕ) → d ≤ 9 → (10 * n + d + 1) * 10 ^ k ≤ (n + 1) * 10 ^ (suc k)
room n d k h =
    let step : (10 * n + d + 1) * 10 ^ k ≤ (10 * (n + 1)) * 10 ^ k = mul-le-mul_right (10 ^ k) (omega arith) in
    rw (pow-succ' 10 k) (omega (arith, step))

pub fits : (n k : ℕ) → (n + 1) * 10 ^ (suc k) ≤ 10 ^ 9 → 10 * n + 10 ≤ 10 ^ 9
fits n k h =
    let one : 1 ≤ 10 ^ k = one-le-pow k 10 (omega arith) in
    let ten : (n + 1) * 10 ≤ (n + 1) * 10 ^ suc k = mul-le-mul_left (n + 1) (rw (pow-succ' 10 k) (omega arith)) in
    omega arith

zeros : (n : ℕ) → n ≤ 6 → take (6 - n) (codes "000000") ≡ drop n (codes "000000")
zeros zero h = refl
zeros (suc zero) h = refl
zeros (suc (suc zero)) h = refl
zeros (suc (suc (suc zero))) h = refl
zeros (suc (suc (suc (suc zero)))) h = refl
zeros (suc (suc (suc (suc (suc zero))))) h = refl
zeros (suc (suc (suc (suc (suc (suc zero)))))) h = refl
zeros (suc (suc (suc (suc (suc (suc (suc n))))))) h = absurd (omega arith)

pub six_parts : (digits : List ℕ) (n : ℕ) → n ≡ min (length digits) 6 → take n digits ++ drop n (codes "000000") ≡ six_of digits
six_parts digits n e = elim (cases_lt (length digits) 6) [
  | inl few ↦
      let all : n ≡ length digits = omega arith in
      let behind = take-append-add digits (codes "000000") (6 - length digits) in
      let six : length digits + (6 - length digits) ≡ 6 = omega arith in
      rw (all, take-length digits, ← zeros (length digits) (omega arith)) (sym (rw six at behind))
  | inr many ↦
      let whole : n ≡ 6 = omega arith in
      rw (whole, take-append-le 6 digits (codes "000000") many) (append-nil (take 6 digits))
]
