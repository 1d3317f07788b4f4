-- A field that is read is spelt so, one that is spelt is read, and so for its faults.
use Rattle.std.proofs.Common.{◌≡◌, ℕ, ◌-◌, ◌+◌, ◌*◌, ◌/◌, ◌%◌, ◌<◌, eqb, List, ◌++◌, length, Result, Ok, Err, refl, sym, ap, subst, ◌∙◌, inl, inr, length-append, append_assoc, arith}
use Rattle.std.proofs.lemmas.Bool.{eqb-true, eqb-false}
use Rattle.pb_wire.specs.declared.field.Field.{Field}
use Rattle.pb_wire.specs.declared.field.FieldValue.{FieldValue}
use Rattle.pb_wire.specs.declared.field.FieldValue.TheVariants as value
use Rattle.pb_wire.specs.declared.field.WireFault.{WireFault}
use Rattle.pb_wire.specs.declared.field.WireFault.TheVariants as fault
use Rattle.pb_wire.specs.Wire.{IsVarint, IsValue, wire_type, IsField, WrongField, wrong_tag, wrong_number, wrong_value}
use Rattle.otp_base.specs.Results.{◌>>=◌}
use Rattle.pb_wire.specs.Cutting.{varint_at, value_at, field_from, field_at}
use Rattle.pb_wire.proofs.Steps.{bind_ok, bind_err, chosen, ok_is, err_is}
use Rattle.pb_wire.proofs.VarintLaws.{varint_takes, varint_again, varint_fails, varint_fails_again, varint_length}
use Rattle.pb_wire.proofs.ValueLaws.{value_takes, value_again, value_fails, value_fails_again, eqb_not}

-- what was taken from the front as a field
pub record TakesField (at : ℕ) (bytes : List ℕ) (x : Field × List ℕ) : Type 0 where
  pub front : List ℕ
  pub parts : bytes ≡ front ++ x.1
  pub is : IsField at x.0 front
  pub some : 0 < length front

split_key : (key kind : ℕ) → kind ≡ key % 8 → key ≡ 8 * (key / 8) + kind
split_key key kind e = omega arith

pub front_length : (bytes front rest : List ℕ) → bytes ≡ front ++ rest → length bytes - length rest ≡ length front
front_length bytes front rest e = omega (arith, ap length e, length-append front rest)

abbrev made : ℕ → ℕ → FieldValue × List ℕ → Field × List ℕ
made at key v = (record { number = key / 8; at = at; value = v.0 }, v.1)

pub field_takes : (at : ℕ) (bytes : List ℕ) (x : Field × List ℕ) → field_at at bytes ≡ Ok x → TakesField at bytes x
unfolding field_at
field_takes at bytes x e =
    let s = bind_ok (varint_at at bytes) (λ key. field_from at (at + (length bytes - length key.1)) key.0 key.1) x e in
    let key = s.0.0 in
    let rest = s.0.1 in
    let here = at + (length bytes - length rest) in
    let t = varint_takes at bytes s.0 s.1 in
    elim (chosen (eqb (key / 8) 0) (Err (fault.ZeroField at)) (value_at (key % 8) at here rest >>= λ v. Ok (made at key v)) (Ok x) s.2) [
      | inl h ↦ absurd (let f = h.1 in cc)
      | inr h ↦
          let u = bind_ok (value_at (key % 8) at here rest) (λ v. Ok (made at key v)) x h.1 in
          let w = value_takes (key % 8) at here rest u.0 u.1 in
          let here_is : here ≡ at + length t.front = ap (λ k. at + k) (front_length bytes t.front rest t.parts) in
          let not_zero : key / 8 ≡ 0 → ⊥ = eqb-false _ _ h.0 in
          let joined : bytes ≡ (t.front ++ w.front) ++ u.0.1 = t.parts ∙ ap (λ (z : List ℕ). t.front ++ z) w.parts ∙ sym (append_assoc t.front w.front u.0.1) in
          let positive = varint_length t.front key t.is in
          subst (TakesField at bytes) (ok_is (made at key u.0) x u.2) (record {
            front = t.front ++ w.front;
            parts = joined;
            is = record {
              tag = t.front;
              rest = w.front;
              parts = refl;
              key = subst (IsVarint t.front) (split_key key (wire_type u.0.0) w.kind_is) t.is;
              positive = grind arith;
              starts = refl;
              says = subst (λ z. IsValue z u.0.0 w.front) here_is w.is;
            };
            some = omega (arith, length-append t.front w.front);
          })
    ]

key_number : (n k : ℕ) → k < 8 → (8 * n + k) / 8 ≡ n
key_number n k h = omega arith

key_kind : (n k : ℕ) → k < 8 → (8 * n + k) % 8 ≡ k
key_kind n k h = omega arith

kind_below : (v : FieldValue) → wire_type v < 8
kind_below (value.Varint n) = omega arith
kind_below (value.Eight n) = omega arith
kind_below (value.Bytes from to) = omega arith
kind_below (value.Four n) = omega arith

abbrev field_ok : ℕ → ℕ → FieldValue → List ℕ → Result (Field × List ℕ) WireFault
field_ok n a v r = Ok (record { number = n; at = a; value = v }, r)

field_is : (f : Field) (at : ℕ) (rest : List ℕ) → f.at ≡ at → field_ok f.number at f.value rest ≡ Ok (f, rest)
field_is f at rest e = ap (λ z. field_ok f.number z f.value rest) (sym e)

pub field_again : (at : ℕ) (f : Field) (front rest : List ℕ) → IsField at f front → field_at at (front ++ rest) ≡ Ok (f, rest)
unfolding field_at
field_again at f front rest h =
    let kind = wire_type f.value in
    let below = kind_below f.value in
    let parts : front ++ rest ≡ h.tag ++ (h.rest ++ rest) = ap (λ (z : List ℕ). z ++ rest) h.parts ∙ append_assoc h.tag h.rest rest in
    let here : length (h.tag ++ (h.rest ++ rest)) - length (h.rest ++ rest) ≡ length h.tag = front_length (h.tag ++ (h.rest ++ rest)) h.tag (h.rest ++ rest) refl in
    let positive : f.number ≡ 0 → ⊥ = let p = h.positive in λ z. omega arith in
    ap (λ z. varint_at at z >>= λ key. field_from at (at + (length z - length key.1)) key.0 key.1) parts
    ∙ rw (varint_again at (8 * f.number + kind) h.tag (h.rest ++ rest) h.key, here, key_number f.number kind below, key_kind f.number kind below, eqb_not f.number 0 positive, value_again f.value at (at + length h.tag) h.rest rest h.says) (field_is f at rest h.starts)

pub field_fails : (at : ℕ) (bytes : List ℕ) (e : WireFault) → field_at at bytes ≡ Err e → WrongField at bytes e
unfolding field_at
field_fails at bytes e h = elim (bind_err (varint_at at bytes) (λ key. field_from at (at + (length bytes - length key.1)) key.0 key.1) e h) [
  | inl s ↦ wrong_tag (varint_fails at bytes e s)
  | inr s ↦
      let key = s.0.0 in
      let rest = s.0.1 in
      let here = at + (length bytes - length rest) in
      let t = varint_takes at bytes s.0 s.1 in
      elim (chosen (eqb (key / 8) 0) (Err (fault.ZeroField at)) (value_at (key % 8) at here rest >>= λ v. Ok (made at key v)) (Err e) s.2) [
        | inl c ↦
            let zero_is : key / 8 ≡ 0 = eqb-true _ _ c.0 in
            wrong_number t.front rest key t.parts (omega arith) t.is (sym (err_is (fault.ZeroField at) e c.1))
        | inr c ↦ elim (bind_err (value_at (key % 8) at here rest) (λ v. Ok (made at key v)) e c.1) [
          | inl u ↦
              let not_zero : key / 8 ≡ 0 → ⊥ = eqb-false _ _ c.0 in
              wrong_value t.front rest (key / 8) (key % 8) t.parts (omega arith) (grind arith) (subst (IsVarint t.front) (split_key key (key % 8) refl) t.is) (value_fails (key % 8) at here rest e u)
          | inr u ↦ absurd (let f = u.2 in cc)
        ]
      ]
]

pub field_fails_again : (at : ℕ) (bytes : List ℕ) (e : WireFault) → WrongField at bytes e → field_at at bytes ≡ Err e
unfolding field_at
field_fails_again at bytes e (wrong_tag w) = rw (varint_fails_again at bytes e w) refl
field_fails_again at bytes e (wrong_number tag rest kind parts below h f) =
    let none : kind / 8 ≡ 0 = omega arith in
    ap (λ z. varint_at at z >>= λ key. field_from at (at + (length z - length key.1)) key.0 key.1) parts ∙ rw (varint_again at kind tag rest h, none, f) refl
field_fails_again at bytes e (wrong_value tag rest number kind parts below positive h w) =
    let some : number ≡ 0 → ⊥ = λ z. omega arith in
    ap (λ z. varint_at at z >>= λ key. field_from at (at + (length z - length key.1)) key.0 key.1) parts
    ∙ rw (varint_again at (8 * number + kind) tag rest h, key_number number kind below, key_kind number kind below, eqb_not number 0 some, value_fails_again kind at (at + (length (tag ++ rest) - length rest)) rest e w) refl

-- a field takes a byte at least
pub field_shorter : (at : ℕ) (bytes : List ℕ) (f : Field) (rest : List ℕ) → field_at at bytes ≡ Ok (f, rest) → length rest < length bytes
field_shorter at bytes f rest e = let t = field_takes at bytes (f, rest) e in let s = t.some in omega (arith, ap length t.parts, length-append t.front rest)
