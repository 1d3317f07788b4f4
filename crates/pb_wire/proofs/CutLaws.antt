-- The two laws: what is cut is spelt so, and what is spelt so is cut; and so for the first fault.
use Rattle.std.proofs.Common.{◌≡◌, ℕ, zero, suc, ◌-◌, ◌+◌, ◌≤◌, ◌<◌, List, [], ◌∷◌, ◌++◌, length, Result, Ok, Err, refl, sym, ap, subst, ◌∙◌, inl, inr, length-append, append_assoc, arith}
use Rattle.std.specs.Prelude.{IfOk, IfErr}
use Rattle.std.specs.Global.{Vec}
use Rattle.pb_wire.specs.declared.field.Field.{Field}
use Rattle.pb_wire.specs.declared.field.WireFault.{WireFault}
use Rattle.pb_wire.specs.declared.field.WireFault.TheVariants as fault
use Rattle.pb_wire.specs.Wire.{Spells, IsValue, WrongField, IsFirstFault, LiesIn, LiesWithin}
use Rattle.pb_wire.specs.declared.field.FieldValue.{FieldValue}
use Rattle.pb_wire.specs.declared.field.FieldValue.TheVariants as value
use Rattle.std.specs.List.{All, AllByRecursion}
use Rattle.std.proofs.lemmas.List.Elements.{All-from_recursion}
use Rattle.otp_base.specs.Answers.{Gives, OrMemory}
use Rattle.otp_base.specs.Results.{◌>>=◌}
use Rattle.pb_wire.specs.Cutting.{told_of, field_at, cut_in, cut}
use Rattle.pb_wire.proofs.Steps.{bind_ok, bind_err, ok_is}
use Rattle.pb_wire.proofs.FieldLaws.{field_takes, field_again, field_fails, field_fails_again, field_shorter, front_length}
use Rattle.pb_wire.proofs.CutLoop.{cut_step, cut_stops}

takes : (n at : ℕ) (bytes : List ℕ) (fs : List Field) → length bytes ≤ n → cut_in n at bytes ≡ Ok fs → Spells at fs bytes
unfolding cut_in
takes n at [] fs p e = subst (λ z. Spells at z []) (ok_is [] fs e) refl
takes zero at (b ∷ bs) fs p e = absurd (omega arith)
takes (suc n) at (b ∷ bs) fs p e =
    let s = bind_ok (field_at at (b ∷ bs)) (λ f. cut_in n (at + (length (b ∷ bs) - length f.1)) f.1 >>= λ fs. Ok (f.0 ∷ fs)) fs e in
    let f = s.0.0 in
    let rest = s.0.1 in
    let u = bind_ok (cut_in n (at + (length (b ∷ bs) - length rest)) rest) (λ fs. Ok (f ∷ fs)) fs s.2 in
    let t = field_takes at (b ∷ bs) s.0 s.1 in
    let shorter = field_shorter at (b ∷ bs) f rest s.1 in
    let few : length rest ≤ n = omega arith in
    let here : at + (length (b ∷ bs) - length rest) ≡ at + length t.front = ap (λ k. at + k) (front_length (b ∷ bs) t.front rest t.parts) in
    let i = takes n (at + (length (b ∷ bs) - length rest)) rest u.0 few u.1 in
    subst (λ z. Spells at z (b ∷ bs)) (ok_is (f ∷ u.0) fs u.2) (t.front, rest, t.parts, t.is, subst (λ z. Spells z u.0 rest) here i)

again : (fs : List Field) (n at : ℕ) (bytes : List ℕ) → Spells at fs bytes → length bytes ≤ n → cut_in n at bytes ≡ Ok fs
unfolding cut_in
again [] n at bytes h p = ap (cut_in n at) h
again (f ∷ fs) n at bytes h p =
    let front = h.0 in
    let rest = h.1 in
    let e : field_at at bytes ≡ Ok (f, rest) = ap (field_at at) h.2 ∙ field_again at f front rest h.3 in
    let here : at + (length bytes - length rest) ≡ at + length front = ap (λ k. at + k) (front_length bytes front rest h.2) in
    let same : length rest ≤ length rest = omega arith in
    cut_step n at bytes f rest p e ∙ rw (here, again fs (length rest) (at + length front) rest h.4 same) refl

fails : (n at : ℕ) (bytes : List ℕ) (e : WireFault) → length bytes ≤ n → cut_in n at bytes ≡ Err e → IsFirstFault at bytes e
unfolding cut_in
fails n at [] e p h = absurd cc
fails zero at (b ∷ bs) e p h = absurd (omega arith)
fails (suc n) at (b ∷ bs) e p h =
    elim (bind_err (field_at at (b ∷ bs)) (λ f. cut_in n (at + (length (b ∷ bs) - length f.1)) f.1 >>= λ fs. Ok (f.0 ∷ fs)) e h) [
      | inl s ↦
          let here : at ≡ at + 0 = omega arith in
          record { before = []; front = []; rest = b ∷ bs; parts = refl; spelt = refl; more = omega arith; wrong = subst (λ z. WrongField z (b ∷ bs) e) here (field_fails at (b ∷ bs) e s) }
      | inr s ↦
          let f = s.0.0 in
          let rest = s.0.1 in
          let t = field_takes at (b ∷ bs) s.0 s.1 in
          let shorter = field_shorter at (b ∷ bs) f rest s.1 in
          let few : length rest ≤ n = omega arith in
          let next = at + (length (b ∷ bs) - length rest) in
          let here : next ≡ at + length t.front = ap (λ k. at + k) (front_length (b ∷ bs) t.front rest t.parts) in
          elim (bind_err (cut_in n next rest) (λ fs. Ok (f ∷ fs)) e s.2) [
            | inl u ↦
                let i = fails n next rest e few u in
                let length_is = length-append t.front i.front in
                let there : next + length i.front ≡ at + length (t.front ++ i.front) = omega arith in
                record {
                  before = f ∷ i.before;
                  front = t.front ++ i.front;
                  rest = i.rest;
                  parts = t.parts ∙ ap (λ (z : List ℕ). t.front ++ z) i.parts ∙ sym (append_assoc t.front i.front i.rest);
                  spelt = (t.front, i.front, refl, t.is, subst (λ z. Spells z i.before i.front) here i.spelt);
                  more = i.more;
                  wrong = subst (λ z. WrongField z i.rest e) there i.wrong;
                }
            | inr u ↦ absurd (let f = u.2 in cc)
          ]
    ]

fails_again : (before : List Field) (n at : ℕ) (front rest : List ℕ) (e : WireFault) → Spells at before front → 0 < length rest → WrongField (at + length front) rest e
    → length (front ++ rest) ≤ n → cut_in n at (front ++ rest) ≡ Err e
fails_again [] n at front rest e h some w p =
    let here : at + length front ≡ at = ap (λ (z : List ℕ). at + length z) h ∙ omega arith in
    let bytes_is : front ++ rest ≡ rest = ap (λ (z : List ℕ). z ++ rest) h in
    let few : length rest ≤ n = subst (λ (z : List ℕ). length z ≤ n) bytes_is p in
    ap (cut_in n at) bytes_is ∙ cut_stops n at rest e some few (field_fails_again at rest e (subst (λ z. WrongField z rest e) here w))
fails_again (f ∷ fs) n at front rest e h some w p =
    let first = h.0 in
    let others = h.1 in
    let parts : front ++ rest ≡ first ++ (others ++ rest) = ap (λ (z : List ℕ). z ++ rest) h.2 ∙ append_assoc first others rest in
    let read : field_at at (front ++ rest) ≡ Ok (f, others ++ rest) = ap (field_at at) parts ∙ field_again at f first (others ++ rest) h.3 in
    let here : at + (length (front ++ rest) - length (others ++ rest)) ≡ at + length first = ap (λ k. at + k) (front_length (front ++ rest) first (others ++ rest) parts) in
    let length_is : length front ≡ length first + length others = ap length h.2 ∙ length-append first others in
    let there : at + length front ≡ at + length first + length others = omega arith in
    let same : length (others ++ rest) ≤ length (others ++ rest) = omega arith in
    let i = fails_again fs (length (others ++ rest)) (at + length first) others rest e h.4 some (subst (λ z. WrongField z rest e) there w) same in
    cut_step n at (front ++ rest) f (others ++ rest) p read ∙ rw (here, i) refl

pub cut_takes : (at : ℕ) (bytes : List ℕ) (fs : List Field) → cut at bytes ≡ Ok fs → Spells at fs bytes
unfolding cut
cut_takes at bytes fs e = takes (length bytes) at bytes fs (omega arith) e

-- A list of fields that spells the bytes is what cutting them gives, so there is no other.
pub cut_again : (at : ℕ) (bytes : List ℕ) (fs : List Field) → Spells at fs bytes → cut at bytes ≡ Ok fs
unfolding cut
cut_again at bytes fs h = again fs (length bytes) at bytes h (omega arith)

pub cut_fails : (at : ℕ) (bytes : List ℕ) (e : WireFault) → cut at bytes ≡ Err e → IsFirstFault at bytes e
unfolding cut
cut_fails at bytes e h = fails (length bytes) at bytes e (omega arith) h

pub cut_fails_again : (at : ℕ) (bytes : List ℕ) (e : WireFault) → IsFirstFault at bytes e → cut at bytes ≡ Err e
unfolding cut
cut_fails_again at bytes e h =
    let bytes_is = h.parts in
    let few : length (h.front ++ h.rest) ≤ length bytes = omega (arith, ap length bytes_is) in
    ap (λ z. cut_in (length bytes) at z) bytes_is ∙ fails_again h.before (length bytes) at h.front h.rest e h.spelt h.more h.wrong few

pub is_found : (at : ℕ) (bytes : List ℕ) (r : Result (Vec Field) WireFault) → Gives (λ v. v.items) told_of r (cut at bytes) → IfOk r (λ v. Spells at v.items bytes)
is_found at bytes (Ok v) given = cut_takes at bytes v.items given
is_found at bytes (Err e) given = tt

pub is_fault : (at : ℕ) (bytes : List ℕ) (r : Result (Vec Field) WireFault) → Gives (λ v. v.items) told_of r (cut at bytes) → IfErr r (OrMemory told_of (IsFirstFault at bytes))
is_fault at bytes (Ok v) given = tt
is_fault at bytes (Err (fault.Cut a)) given = cut_fails at bytes (fault.Cut a) given
is_fault at bytes (Err (fault.LongVarint a)) given = cut_fails at bytes (fault.LongVarint a) given
is_fault at bytes (Err (fault.Group a)) given = cut_fails at bytes (fault.Group a) given
is_fault at bytes (Err (fault.ZeroField a)) given = cut_fails at bytes (fault.ZeroField a) given
is_fault at bytes (Err fault.Memory) given = tt

part_lies : (low high at : ℕ) (v : FieldValue) (bytes : List ℕ) → low ≤ at → at + length bytes ≤ high → IsValue at v bytes → LiesIn low high v
part_lies low high at (value.Varint n) bytes p q h = tt
part_lies low high at (value.Eight n) bytes p q h = tt
part_lies low high at (value.Bytes from to) bytes p q h =
    let length_is : length bytes ≡ length h.len + length h.text = ap length h.parts ∙ length-append h.len h.text in
    let starts = h.starts in
    let ends = h.ends in
    (omega arith, omega arith, omega arith)
part_lies low high at (value.Four n) bytes p q h = tt

lies : (fs : List Field) (low high at : ℕ) (bytes : List ℕ) → low ≤ at → at + length bytes ≤ high → Spells at fs bytes → AllByRecursion (LiesWithin low high) fs
lies [] low high at bytes p q h = tt
lies (f ∷ fs) low high at bytes p q h =
    let front_is = h.3.parts in
    let length_is : length bytes ≡ length h.0 + length h.1 = ap length h.2 ∙ length-append h.0 h.1 in
    let front_length_is : length h.0 ≡ length h.3.tag + length h.3.rest = ap length front_is ∙ length-append h.3.tag h.3.rest in
    let value_low : low ≤ at + length h.3.tag = omega arith in
    let value_high : at + length h.3.tag + length h.3.rest ≤ high = omega arith in
    let rest_low : low ≤ at + length h.0 = omega arith in
    let rest_high : at + length h.0 + length h.1 ≤ high = omega arith in
    (part_lies low high (at + length h.3.tag) f.value h.3.rest value_low value_high h.3.says, lies fs low high (at + length h.0) h.1 rest_low rest_high h.4)

pub is_within : (at : ℕ) (bytes : List ℕ) (r : Result (Vec Field) WireFault) → Gives (λ v. v.items) told_of r (cut at bytes) → IfOk r (λ v. All (LiesWithin at (at + length bytes)) v.items)
is_within at bytes (Ok v) given =
    let low : at ≤ at = omega arith in
    let high : at + length bytes ≤ at + length bytes = omega arith in
    All-from_recursion (LiesWithin at (at + length bytes)) v.items (lies v.items at (at + length bytes) at bytes low high (cut_takes at bytes v.items given))
is_within at bytes (Err e) given = tt
