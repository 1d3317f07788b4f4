-- Reading a varint byte by byte, as a loop does: what was read so far, and what the place of the next byte is worth.
use Rattle.std.proofs.Common.{◌≡◌, ℕ, suc, ◌-◌, ◌+◌, ◌*◌, ◌%◌, ◌^◌, ◌≤◌, ◌<◌, List, [], ◌∷◌, Result, Ok, Err, refl, sym, ap, ◌∙◌, arith}
use Rattle.std.proofs.Math.Nat.{add-mod-mod, mod-add-mod, mul-add, mul_assoc}
use Rattle.std.proofs.lemmas.Nat.{mul-mod_first}
use Rattle.std.proofs.lemmas.Bool.{lt-ltb, le-ltb}
use Rattle.pb_wire.specs.declared.field.WireFault.{WireFault}
use Rattle.pb_wire.specs.declared.field.WireFault.TheVariants as fault
use Rattle.otp_base.specs.Results.{◌>>=◌}
use Rattle.pb_wire.specs.Cutting.{varint_in, varint_at}

-- the number so far, and the rest of it from this place on
abbrev pub more : ℕ → ℕ → ℕ → Result (ℕ × List ℕ) WireFault → Result (ℕ × List ℕ) WireFault
more limit n place read = read >>= λ x. Ok ((n + place * x.0) % limit, x.1)

step_sum : (limit n p b x : ℕ) → ((n + (p * b) % limit) % limit + (p * 128) % limit * x) % limit ≡ (n + p * (b + 128 * x)) % limit
step_sum limit n p b x =
    let first : ((n + (p * b) % limit) % limit + (p * 128) % limit * x) % limit ≡ (n + (p * b) % limit + (p * 128) % limit * x) % limit = mod-add-mod _ _ _ in
    let right : (n + (p * b) % limit + (p * 128) % limit * x) % limit ≡ (n + (p * b) % limit + p * 128 * x) % limit = sym (add-mod-mod _ _ _) ∙ ap (λ k. (n + (p * b) % limit + k) % limit) (mul-mod_first _ _ _) ∙ add-mod-mod _ _ _ in
    let swap : n + (p * b) % limit + p * 128 * x ≡ n + p * 128 * x + (p * b) % limit = omega arith in
    let left : (n + p * 128 * x + (p * b) % limit) % limit ≡ (n + p * 128 * x + p * b) % limit = add-mod-mod _ _ _ in
    let whole : n + p * 128 * x + p * b ≡ n + p * (b + 128 * x) = rw (mul-add p b (128 * x), ← mul_assoc p 128 x) (omega arith) in
    first ∙ right ∙ ap (λ k. k % limit) swap ∙ left ∙ ap (λ k. k % limit) whole

step_read : (limit n p b : ℕ) (read : Result (ℕ × List ℕ) WireFault) → more limit n p (read >>= λ x. Ok (b + 128 * x.0, x.1)) ≡ more limit ((n + (p * b) % limit) % limit) ((p * 128) % limit) read
step_read limit n p b (Ok x) = ap (λ k. Ok (k, x.1)) (sym (step_sum limit n p b x.0))
step_read limit n p b (Err e) = refl

pub varint_goes_on : (limit n p b i at : ℕ) (bs : List ℕ) (total : Result (ℕ × List ℕ) WireFault) → i < 10 → 128 ≤ b
    → more limit n p (varint_in (10 - i) at (b ∷ bs)) ≡ total
    → more limit ((n + (p * (b - 128)) % limit) % limit) ((p * 128) % limit) (varint_in (10 - (i + 1)) at bs) ≡ total
unfolding varint_in
varint_goes_on limit n p b i at bs total lt le so_far =
    let k : 10 - i ≡ suc (10 - (i + 1)) = omega arith in
    let one : more limit n p (varint_in (10 - i) at (b ∷ bs)) ≡ more limit ((n + (p * (b - 128)) % limit) % limit) ((p * 128) % limit) (varint_in (10 - (i + 1)) at bs) = rw (k, le-ltb b 128 le) (step_read limit n p (b - 128) (varint_in (10 - (i + 1)) at bs)) in
    sym one ∙ so_far

pub varint_ends : (limit n p b i at : ℕ) (bs : List ℕ) (total : Result (ℕ × List ℕ) WireFault) → i < 10 → b < 128
    → more limit n p (varint_in (10 - i) at (b ∷ bs)) ≡ total → total ≡ Ok ((n + (p * b) % limit) % limit, bs)
unfolding varint_in
varint_ends limit n p b i at bs total lt small so_far =
    let k : 10 - i ≡ suc (10 - (i + 1)) = omega arith in
    let one : more limit n p (varint_in (10 - i) at (b ∷ bs)) ≡ Ok ((n + p * b) % limit, bs) = rw (k, lt-ltb b 128 small) refl in
    sym so_far ∙ one ∙ ap (λ k. Ok (k, bs)) (sym (add-mod-mod _ _ _))

pub varint_is_cut : (limit n p i at : ℕ) (total : Result (ℕ × List ℕ) WireFault) → i < 10
    → more limit n p (varint_in (10 - i) at []) ≡ total → total ≡ Err (fault.Cut at)
unfolding varint_in
varint_is_cut limit n p i at total lt so_far =
    let k : 10 - i ≡ suc (10 - (i + 1)) = omega arith in
    let one : more limit n p (varint_in (10 - i) at []) ≡ Err (fault.Cut at) = rw k refl in
    sym so_far ∙ one

pub varint_is_long : (limit n p i at : ℕ) (bytes : List ℕ) (total : Result (ℕ × List ℕ) WireFault) → 10 ≤ i
    → more limit n p (varint_in (10 - i) at bytes) ≡ total → total ≡ Err (fault.LongVarint at)
unfolding varint_in
varint_is_long limit n p i at bytes total le so_far =
    let k : 10 - i ≡ 0 = omega arith in
    let one : more limit n p (varint_in (10 - i) at bytes) ≡ Err (fault.LongVarint at) = rw k refl in
    sym so_far ∙ one

start_read : (limit : ℕ) (read : Result (ℕ × List ℕ) WireFault) → more limit 0 1 read ≡ (read >>= λ x. Ok (x.0 % limit, x.1))
start_read limit (Ok x) = ap (λ k. Ok (k % limit, x.1)) (omega arith)
start_read limit (Err e) = refl

pub varint_starts : (at : ℕ) (bytes : List ℕ) → more (2 ^ 64) 0 1 (varint_in 10 at bytes) ≡ varint_at at bytes
unfolding varint_at
varint_starts at bytes = start_read (2 ^ 64) (varint_in 10 at bytes)
