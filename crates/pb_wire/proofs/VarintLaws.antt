-- A varint that is read is spelt so, one that is spelt is read, and so for its faults.
use Rattle.std.proofs.Common.{◌≡◌, ℕ, zero, suc, ◌-◌, ◌+◌, ◌*◌, ◌%◌, ◌^◌, ◌≤◌, ◌<◌, List, [], ◌∷◌, ◌++◌, length, Ok, Err, refl, sym, ap, subst, ◌∙◌, inl, inr, length-append, arith}
use Rattle.std.proofs.lemmas.Bool.{lt-ltb, le-ltb, ltb-true, ltb-false}
use Rattle.std.specs.Prelude.{nat_lt}
use Rattle.pb_wire.specs.declared.field.WireFault.{WireFault}
use Rattle.pb_wire.specs.declared.field.WireFault.TheVariants as fault
use Rattle.pb_wire.specs.Wire.{StandsFor, IsVarint, GoOn, WrongVarint}
use Rattle.otp_base.specs.Results.{◌>>=◌}
use Rattle.pb_wire.specs.Cutting.{varint_in, varint_at}
use Rattle.pb_wire.proofs.Steps.{bind_ok, bind_err, chosen, ok_is, err_is}

stands_more : (b n high : ℕ) (bs : List ℕ) → 128 ≤ b → n + 128 ≡ b + 128 * high → StandsFor bs high → StandsFor (b ∷ bs) n
stands_more b n high [] le e h = absurd h
stands_more b n high (c ∷ bs) le e h = (le, (high, e, h))

record Takes (room : ℕ) (bytes : List ℕ) (x : ℕ × List ℕ) : Type 0 where
  pub front : List ℕ
  pub parts : bytes ≡ front ++ x.1
  pub stands : StandsFor front x.0
  pub few : length front ≤ room

takes : (room at : ℕ) (bytes : List ℕ) (x : ℕ × List ℕ) → varint_in room at bytes ≡ Ok x → Takes room bytes x
unfolding varint_in
takes zero at bytes x e = absurd cc
takes (suc room) at [] x e = absurd cc
takes (suc room) at (b ∷ bs) x e =
    elim (chosen (nat_lt b 128) (Ok (b, bs)) (varint_in room at bs >>= λ x. Ok (b - 128 + 128 * x.0, x.1)) (Ok x) e) [
      | inl h ↦
          let small : b < 128 = ltb-true _ _ h.0 in
          subst (Takes (suc room) (b ∷ bs)) (ok_is (b, bs) x h.1) (record { front = b ∷ []; parts = refl; stands = (small, refl); few = omega arith })
      | inr h ↦
          let le : 128 ≤ b = ltb-false _ _ h.0 in
          let s = bind_ok (varint_in room at bs) (λ x. Ok (b - 128 + 128 * x.0, x.1)) x h.1 in
          let t = takes room at bs s.0 s.1 in
          subst (Takes (suc room) (b ∷ bs)) (ok_is (b - 128 + 128 * s.0.0, s.0.1) x s.2) (record {
            front = b ∷ t.front;
            parts = ap (λ z. b ∷ z) t.parts;
            stands = stands_more b (b - 128 + 128 * s.0.0) s.0.0 t.front le (omega arith) t.stands;
            few = omega (arith, t.few);
          })
    ]

again : (room at n : ℕ) (front rest : List ℕ) → StandsFor front n → length front ≤ room → varint_in room at (front ++ rest) ≡ Ok (n, rest)
unfolding varint_in
again room at n [] rest h few = absurd h
again zero at n (b ∷ bs) rest h few = absurd (omega arith)
again (suc room) at n (b ∷ []) rest h few = rw (lt-ltb b 128 h.0) (ap (λ k. Ok (k, rest)) (sym h.1))
again (suc room) at n (b ∷ c ∷ bs) rest h few =
    let i : varint_in room at ((c ∷ bs) ++ rest) ≡ Ok (h.1.0, rest) = again room at h.1.0 (c ∷ bs) rest h.1.2 (omega arith) in
    let le : 128 ≤ b = h.0 in
    let s : n + 128 ≡ b + 128 * h.1.0 = h.1.1 in
    rw (le-ltb b 128 le, i) (ap (λ k. Ok (k, rest)) (omega arith))

fails_more : (room at b : ℕ) (bs : List ℕ) (e : WireFault) → 128 ≤ b → WrongVarint room at bs e → WrongVarint (suc room) at (b ∷ bs) e
fails_more room at b bs (fault.Cut a) le h = (h.0, (le, h.1), omega (arith, h.2))
fails_more room at b bs (fault.LongVarint a) le h = (h.0, record { front = b ∷ h.1.front; rest = h.1.rest; parts = ap (λ z. b ∷ z) h.1.parts; on = (le, h.1.on); all = ap suc h.1.all })
fails_more room at b bs (fault.Group a) le h = h
fails_more room at b bs (fault.ZeroField a) le h = h
fails_more room at b bs fault.Memory le h = h

fails : (room at : ℕ) (bytes : List ℕ) (e : WireFault) → varint_in room at bytes ≡ Err e → WrongVarint room at bytes e
unfolding varint_in
fails zero at bytes e h = subst (WrongVarint zero at bytes) (err_is (fault.LongVarint at) e h) (refl, record { front = []; rest = bytes; parts = refl; on = tt; all = refl })
fails (suc room) at [] e h = subst (WrongVarint (suc room) at []) (err_is (fault.Cut at) e h) (refl, tt, omega arith)
fails (suc room) at (b ∷ bs) e h =
    elim (chosen (nat_lt b 128) (Ok (b, bs)) (varint_in room at bs >>= λ x. Ok (b - 128 + 128 * x.0, x.1)) (Err e) h) [
      | inl k ↦ absurd (let f = k.1 in cc)
      | inr k ↦
          let le : 128 ≤ b = ltb-false _ _ k.0 in
          elim (bind_err (varint_in room at bs) (λ x. Ok (b - 128 + 128 * x.0, x.1)) e k.1) [
            | inl s ↦ fails_more room at b bs e le (fails room at bs e s)
            | inr s ↦ absurd (let f = s.2 in cc)
          ]
    ]

cut_again : (room at : ℕ) (bytes : List ℕ) → GoOn bytes → length bytes < room → varint_in room at bytes ≡ Err (fault.Cut at)
unfolding varint_in
cut_again zero at bytes on few = absurd (omega arith)
cut_again (suc room) at [] on few = refl
cut_again (suc room) at (b ∷ bs) on few = rw (le-ltb b 128 on.0, cut_again room at bs on.1 (omega arith)) refl

long_again : (at : ℕ) (front rest : List ℕ) → GoOn front → varint_in (length front) at (front ++ rest) ≡ Err (fault.LongVarint at)
unfolding varint_in
long_again at [] rest on = refl
long_again at (b ∷ bs) rest on = rw (le-ltb b 128 on.0, long_again at bs rest on.1) refl

fails_again : (room at : ℕ) (bytes : List ℕ) (e : WireFault) → WrongVarint room at bytes e → varint_in room at bytes ≡ Err e
fails_again room at bytes (fault.Cut a) h = cut_again room at bytes h.1 h.2 ∙ ap (λ z. Err (fault.Cut z)) (sym h.0)
fails_again room at bytes (fault.LongVarint a) h =
    ap (λ z. varint_in room at z) h.1.parts ∙ ap (λ z. varint_in z at (h.1.front ++ h.1.rest)) (sym h.1.all) ∙ long_again at h.1.front h.1.rest h.1.on ∙ ap (λ z. Err (fault.LongVarint z)) (sym h.0)
fails_again room at bytes (fault.Group a) h = absurd h
fails_again room at bytes (fault.ZeroField a) h = absurd h
fails_again room at bytes fault.Memory h = absurd h

-- what was taken from the front as a varint
pub record TakesVarint (bytes : List ℕ) (x : ℕ × List ℕ) : Type 0 where
  pub front : List ℕ
  pub parts : bytes ≡ front ++ x.1
  pub is : IsVarint front x.0

pub varint_takes : (at : ℕ) (bytes : List ℕ) (x : ℕ × List ℕ) → varint_at at bytes ≡ Ok x → TakesVarint bytes x
unfolding varint_at
varint_takes at bytes x e =
    let s = bind_ok (varint_in 10 at bytes) (λ x. Ok (x.0 % 2 ^ 64, x.1)) x e in
    let t = takes 10 at bytes s.0 s.1 in
    subst (TakesVarint bytes) (ok_is (s.0.0 % 2 ^ 64, s.0.1) x s.2) (record {
      front = t.front;
      parts = t.parts;
      is = record { whole = s.0.0; stands = t.stands; few = t.few; low = refl };
    })

pub varint_again : (at n : ℕ) (front rest : List ℕ) → IsVarint front n → varint_at at (front ++ rest) ≡ Ok (n, rest)
unfolding varint_at
varint_again at n front rest h = rw (again 10 at h.whole front rest h.stands h.few) (ap (λ k. Ok (k, rest)) (sym h.low))

pub varint_fails : (at : ℕ) (bytes : List ℕ) (e : WireFault) → varint_at at bytes ≡ Err e → WrongVarint 10 at bytes e
unfolding varint_at
varint_fails at bytes e h =
    elim (bind_err (varint_in 10 at bytes) (λ x. Ok (x.0 % 2 ^ 64, x.1)) e h) [
      | inl s ↦ fails 10 at bytes e s
      | inr s ↦ absurd (let f = s.2 in cc)
    ]

pub varint_fails_again : (at : ℕ) (bytes : List ℕ) (e : WireFault) → WrongVarint 10 at bytes e → varint_at at bytes ≡ Err e
unfolding varint_at
varint_fails_again at bytes e h = rw (fails_again 10 at bytes e h) refl

-- a varint has a byte
pub varint_length : (front : List ℕ) (n : ℕ) → IsVarint front n → 0 < length front
varint_length [] n h = absurd h.stands
varint_length (b ∷ bs) n h = omega arith

pub varint_shorter : (at : ℕ) (bytes : List ℕ) (n : ℕ) (rest : List ℕ) → varint_at at bytes ≡ Ok (n, rest) → length rest ≤ length bytes
varint_shorter at bytes n rest e = let t = varint_takes at bytes (n, rest) e in omega (arith, ap length t.parts, length-append t.front rest)
