-- A value that is read is spelt so, one that is spelt is read, and so for its faults.
use Rattle.std.proofs.Common.{◌≡◌, ℕ, ◌-◌, ◌+◌, ◌≤◌, false, ltb, eqb, List, ◌++◌, length, take, drop, Result, Ok, Err, refl, sym, ap, subst, ◌∙◌, inl, inr, length-append, append_assoc, arith}
use Rattle.std.proofs.lemmas.Bool.{lt-ltb, le-ltb, ltb-true, ltb-false, eqb-true, eqb-false}
use Rattle.std.proofs.lemmas.List.{take_at, drop_at, take-append-drop, length-take}
use Rattle.std.specs.Int.{w32, w64, from_le_bytes}
use Rattle.pb_wire.specs.declared.field.FieldValue.{FieldValue}
use Rattle.pb_wire.specs.declared.field.FieldValue.TheVariants as value
use Rattle.pb_wire.specs.declared.field.WireFault.{WireFault}
use Rattle.pb_wire.specs.declared.field.WireFault.TheVariants as fault
use Rattle.pb_wire.specs.Wire.{IsVarint, IsPart, IsValue, wire_type, IsShort, WrongValue, wrong_varint, wrong_eight, wrong_length, wrong_part, wrong_four, wrong_kind}
use Rattle.otp_base.specs.Results.{◌>>=◌}
use Rattle.pb_wire.specs.Cutting.{varint_at, eight_at, four_at, part_from, part_at, value_at}
use Rattle.pb_wire.proofs.Steps.{bind_ok, bind_err, chosen, ok_is, err_is}
use Rattle.pb_wire.proofs.VarintLaws.{varint_takes, varint_again, varint_fails, varint_fails_again}

-- what was taken from the front as a value of a wire type
pub record TakesValue (kind here : ℕ) (bytes : List ℕ) (x : FieldValue × List ℕ) : Type 0 where
  pub front : List ℕ
  pub parts : bytes ≡ front ++ x.1
  pub is : IsValue here x.0 front
  pub kind_is : wire_type x.0 ≡ kind

eight_takes : (at here : ℕ) (bytes : List ℕ) (x : FieldValue × List ℕ) → eight_at at bytes ≡ Ok x → TakesValue 1 here bytes x
unfolding eight_at
eight_takes at here bytes x e =
    elim (chosen (ltb (length bytes) 8) (Err (fault.Cut at)) (Ok (value.Eight (from_le_bytes w64 (take 8 bytes)), drop 8 bytes)) (Ok x) e) [
      | inl h ↦ absurd (let f = h.1 in cc)
      | inr h ↦
          let long : 8 ≤ length bytes = ltb-false _ _ h.0 in
          subst (TakesValue 1 here bytes) (ok_is (value.Eight (from_le_bytes w64 (take 8 bytes)), drop 8 bytes) x h.1) (record {
            front = take 8 bytes;
            parts = sym (take-append-drop 8 bytes);
            is = (omega (arith, length-take 8 bytes), refl);
            kind_is = refl;
          })
    ]

four_takes : (at here : ℕ) (bytes : List ℕ) (x : FieldValue × List ℕ) → four_at at bytes ≡ Ok x → TakesValue 5 here bytes x
unfolding four_at
four_takes at here bytes x e =
    elim (chosen (ltb (length bytes) 4) (Err (fault.Cut at)) (Ok (value.Four (from_le_bytes w32 (take 4 bytes)), drop 4 bytes)) (Ok x) e) [
      | inl h ↦ absurd (let f = h.1 in cc)
      | inr h ↦
          let long : 4 ≤ length bytes = ltb-false _ _ h.0 in
          subst (TakesValue 5 here bytes) (ok_is (value.Four (from_le_bytes w32 (take 4 bytes)), drop 4 bytes) x h.1) (record {
            front = take 4 bytes;
            parts = sym (take-append-drop 4 bytes);
            is = (omega (arith, length-take 4 bytes), refl);
            kind_is = refl;
          })
    ]

part_takes : (at here : ℕ) (bytes : List ℕ) (x : FieldValue × List ℕ) → part_at at here bytes ≡ Ok x → TakesValue 2 here bytes x
unfolding part_at
part_takes at here bytes x e =
    let s = bind_ok (varint_at at bytes) (λ n. part_from at here bytes n.0 n.1) x e in
    let n = s.0.0 in
    let rest = s.0.1 in
    let t = varint_takes at bytes s.0 s.1 in
    let start = here + (length bytes - length rest) in
    elim (chosen (ltb (length rest) n) (Err (fault.Cut at)) (Ok (value.Bytes start (start + n), drop n rest)) (Ok x) s.2) [
      | inl h ↦ absurd (let f = h.1 in cc)
      | inr h ↦
          let long : n ≤ length rest = ltb-false _ _ h.0 in
          let len : length (take n rest) ≡ n = omega (arith, length-take n rest) in
          let whole : length bytes ≡ length t.front + length rest = ap length t.parts ∙ length-append t.front rest in
          let joined : bytes ≡ (t.front ++ take n rest) ++ drop n rest = t.parts ∙ ap (λ (z : List ℕ). t.front ++ z) (sym (take-append-drop n rest)) ∙ sym (append_assoc t.front (take n rest) (drop n rest)) in
          subst (TakesValue 2 here bytes) (ok_is (value.Bytes start (start + n), drop n rest) x h.1) (record {
            front = t.front ++ take n rest;
            parts = joined;
            is = record { len = t.front; text = take n rest; parts = refl; long = subst (IsVarint t.front) (sym len) t.is; starts = omega arith; ends = omega arith };
            kind_is = refl;
          })
    ]

pub value_takes : (kind at here : ℕ) (bytes : List ℕ) (x : FieldValue × List ℕ) → value_at kind at here bytes ≡ Ok x → TakesValue kind here bytes x
unfolding value_at
value_takes kind at here bytes x e = elim (chosen (eqb kind 0) (varint_at at bytes >>= λ n. Ok (value.Varint n.0, n.1)) _ (Ok x) e) [
  | inl h ↦
      let s = bind_ok (varint_at at bytes) (λ n. Ok (value.Varint n.0, n.1)) x h.1 in
      let t = varint_takes at bytes s.0 s.1 in
      subst (TakesValue kind here bytes) (ok_is (value.Varint s.0.0, s.0.1) x s.2) (record { front = t.front; parts = t.parts; is = t.is; kind_is = sym (eqb-true kind 0 h.0) })
  | inr h ↦ elim (chosen (eqb kind 1) (eight_at at bytes) _ (Ok x) h.1) [
    | inl k ↦ subst (λ z. TakesValue z here bytes x) (sym (eqb-true kind 1 k.0)) (eight_takes at here bytes x k.1)
    | inr k ↦ elim (chosen (eqb kind 2) (part_at at here bytes) _ (Ok x) k.1) [
      | inl l ↦ subst (λ z. TakesValue z here bytes x) (sym (eqb-true kind 2 l.0)) (part_takes at here bytes x l.1)
      | inr l ↦ elim (chosen (eqb kind 5) (four_at at bytes) _ (Ok x) l.1) [
        | inl m ↦ subst (λ z. TakesValue z here bytes x) (sym (eqb-true kind 5 m.0)) (four_takes at here bytes x m.1)
        | inr m ↦ absurd (let f = m.1 in cc)
      ]
    ]
  ]
]

abbrev part_ok : ℕ → ℕ → List ℕ → Result (FieldValue × List ℕ) WireFault
part_ok a c r = Ok (value.Bytes a c, r)

ap2 : (a b c d : ℕ) (rest : List ℕ) → a ≡ b → c ≡ d → part_ok a c rest ≡ part_ok b d rest
ap2 a b c d rest p q = ap (λ z. part_ok z c rest) p ∙ ap (λ z. part_ok b z rest) q

part_again : (at here from to : ℕ) (front rest : List ℕ) → IsPart here from to front → part_at at here (front ++ rest) ≡ Ok (value.Bytes from to, rest)
unfolding part_at
part_again at here from to front rest h =
    let n = length h.text in
    let parts : front ++ rest ≡ h.len ++ (h.text ++ rest) = ap (λ (z : List ℕ). z ++ rest) h.parts ∙ append_assoc h.len h.text rest in
    let long : ltb (length (h.text ++ rest)) n ≡ false = le-ltb _ _ (omega (arith, length-append h.text rest)) in
    let bytes = h.len ++ (h.text ++ rest) in
    let start : here + (length bytes - length (h.text ++ rest)) ≡ from = let e = length-append h.len (h.text ++ rest) in let s = h.starts in omega arith in
    let end : here + (length bytes - length (h.text ++ rest)) + n ≡ to = let s = h.ends in omega arith in
    ap (λ z. varint_at at z >>= λ n. part_from at here z n.0 n.1) parts
    ∙ rw (varint_again at n h.len (h.text ++ rest) h.long, long, drop_at h.text rest n refl) (ap2 _ _ _ _ rest start end)

pub value_again : (v : FieldValue) (at here : ℕ) (front rest : List ℕ) → IsValue here v front → value_at (wire_type v) at here (front ++ rest) ≡ Ok (v, rest)
unfolding value_at eight_at four_at
value_again (value.Varint n) at here front rest h = rw (varint_again at n front rest h) refl
value_again (value.Eight n) at here front rest h =
    let long : ltb (length (front ++ rest)) 8 ≡ false = le-ltb _ _ (omega (arith, length-append front rest)) in
    rw (long, take_at front rest 8 h.0, drop_at front rest 8 h.0) (ap (λ z. Ok (value.Eight z, rest)) (sym h.1))
value_again (value.Bytes from to) at here front rest h = part_again at here from to front rest h
value_again (value.Four n) at here front rest h =
    let long : ltb (length (front ++ rest)) 4 ≡ false = le-ltb _ _ (omega (arith, length-append front rest)) in
    rw (long, take_at front rest 4 h.0, drop_at front rest 4 h.0) (ap (λ z. Ok (value.Four z, rest)) (sym h.1))

eight_fails : (kind at : ℕ) (bytes : List ℕ) (e : WireFault) → kind ≡ 1 → eight_at at bytes ≡ Err e → WrongValue kind at bytes e
unfolding eight_at
eight_fails kind at bytes e k h = elim (chosen (ltb (length bytes) 8) (Err (fault.Cut at)) (Ok (value.Eight (from_le_bytes w64 (take 8 bytes)), drop 8 bytes)) (Err e) h) [
  | inl s ↦ wrong_eight k (ltb-true _ _ s.0) (sym (err_is (fault.Cut at) e s.1))
  | inr s ↦ absurd (let f = s.1 in cc)
]

four_fails : (kind at : ℕ) (bytes : List ℕ) (e : WireFault) → kind ≡ 5 → four_at at bytes ≡ Err e → WrongValue kind at bytes e
unfolding four_at
four_fails kind at bytes e k h = elim (chosen (ltb (length bytes) 4) (Err (fault.Cut at)) (Ok (value.Four (from_le_bytes w32 (take 4 bytes)), drop 4 bytes)) (Err e) h) [
  | inl s ↦ wrong_four k (ltb-true _ _ s.0) (sym (err_is (fault.Cut at) e s.1))
  | inr s ↦ absurd (let f = s.1 in cc)
]

part_fails : (kind at here : ℕ) (bytes : List ℕ) (e : WireFault) → kind ≡ 2 → part_at at here bytes ≡ Err e → WrongValue kind at bytes e
unfolding part_at
part_fails kind at here bytes e k h = elim (bind_err (varint_at at bytes) (λ n. part_from at here bytes n.0 n.1) e h) [
  | inl s ↦ wrong_length k (varint_fails at bytes e s)
  | inr s ↦
      let t = varint_takes at bytes s.0 s.1 in
      elim (chosen (ltb (length s.0.1) s.0.0) (Err (fault.Cut at)) (Ok (value.Bytes (here + (length bytes - length s.0.1)) (here + (length bytes - length s.0.1) + s.0.0), drop s.0.0 s.0.1)) (Err e) s.2) [
        | inl c ↦ wrong_part k (record { len = t.front; rest = s.0.1; parts = t.parts; wanted = s.0.0; long = t.is; short = ltb-true _ _ c.0 }) (sym (err_is (fault.Cut at) e c.1))
        | inr c ↦ absurd (let f = c.1 in cc)
      ]
]

pub value_fails : (kind at here : ℕ) (bytes : List ℕ) (e : WireFault) → value_at kind at here bytes ≡ Err e → WrongValue kind at bytes e
unfolding value_at
value_fails kind at here bytes e x = elim (chosen (eqb kind 0) (varint_at at bytes >>= λ n. Ok (value.Varint n.0, n.1)) _ (Err e) x) [
  | inl h ↦ elim (bind_err (varint_at at bytes) (λ n. Ok (value.Varint n.0, n.1)) e h.1) [
    | inl s ↦ wrong_varint (eqb-true kind 0 h.0) (varint_fails at bytes e s)
    | inr s ↦ absurd (let f = s.2 in cc)
  ]
  | inr h ↦ elim (chosen (eqb kind 1) (eight_at at bytes) _ (Err e) h.1) [
    | inl k ↦ eight_fails kind at bytes e (eqb-true kind 1 k.0) k.1
    | inr k ↦ elim (chosen (eqb kind 2) (part_at at here bytes) _ (Err e) k.1) [
      | inl l ↦ part_fails kind at here bytes e (eqb-true kind 2 l.0) l.1
      | inr l ↦ elim (chosen (eqb kind 5) (four_at at bytes) _ (Err e) l.1) [
        | inl m ↦ four_fails kind at bytes e (eqb-true kind 5 m.0) m.1
        | inr m ↦ wrong_kind (eqb-false kind 0 h.0) (eqb-false kind 1 k.0) (eqb-false kind 2 l.0) (eqb-false kind 5 m.0) (sym (err_is (fault.Group at) e m.1))
      ]
    ]
  ]
]

short_again : (at here : ℕ) (bytes : List ℕ) → IsShort bytes → part_at at here bytes ≡ Err (fault.Cut at)
unfolding part_at
short_again at here bytes h = ap (λ z. varint_at at z >>= λ n. part_from at here z n.0 n.1) h.parts ∙ rw (varint_again at h.wanted h.len h.rest h.long, lt-ltb (length h.rest) h.wanted h.short) refl

pub eqb_not : (a b : ℕ) → (a ≡ b → ⊥) → eqb a b ≡ false
eqb_not a b h = grind arith

pub value_fails_again : (kind at here : ℕ) (bytes : List ℕ) (e : WireFault) → WrongValue kind at bytes e → value_at kind at here bytes ≡ Err e
unfolding value_at eight_at four_at part_at
value_fails_again kind at here bytes e (wrong_varint k w) = rw (k, varint_fails_again at bytes e w) refl
value_fails_again kind at here bytes e (wrong_eight k s f) = rw (k, lt-ltb (length bytes) 8 s, f) refl
value_fails_again kind at here bytes e (wrong_length k w) = rw (k, varint_fails_again at bytes e w) refl
value_fails_again kind at here bytes e (wrong_part k s f) = rw (k, f) (short_again at here bytes s)
value_fails_again kind at here bytes e (wrong_four k s f) = rw (k, lt-ltb (length bytes) 4 s, f) refl
value_fails_again kind at here bytes e (wrong_kind a b c d f) = rw (eqb_not kind 0 a, eqb_not kind 1 b, eqb_not kind 2 c, eqb_not kind 5 d, f) refl
