-- Cutting field by field, as a loop does.
use Rattle.std.proofs.Common.{◌≡◌, ℕ, zero, suc, ◌-◌, ◌+◌, ◌≤◌, ◌<◌, false, eqb, List, [], ◌∷◌, ◌++◌, length, Result, Ok, Err, refl, sym, ap, ◌∙◌, append_assoc, arith}
use Rattle.std.proofs.lemmas.List.{append-nil}
use Rattle.pb_wire.specs.declared.field.Field.{Field}
use Rattle.pb_wire.specs.declared.field.WireFault.{WireFault}
use Rattle.pb_wire.specs.declared.field.WireFault.TheVariants as fault
use Rattle.otp_base.specs.Answers.{OrMemory}
use Rattle.otp_base.specs.Results.{◌>>=◌}
use Rattle.pb_wire.specs.Cutting.{told_of, field_at, cut_in, cut}
use Rattle.pb_wire.proofs.FieldLaws.{field_shorter}

-- the fields found so far, and those of the rest
abbrev pub with_front : List Field → Result (List Field) WireFault → Result (List Field) WireFault
with_front front read = read >>= λ fs. Ok (front ++ fs)

bind_same : {A B : Type 0} (r : Result A WireFault) (f g : A → Result B WireFault) → ((x : A) → r ≡ Ok x → f x ≡ g x) → (r >>= f) ≡ (r >>= g)
bind_same (Ok x) f g h = h x refl
bind_same (Err e) f g h = refl

-- more room than bytes changes nothing
cut_enough : (n m at : ℕ) (bytes : List ℕ) → length bytes ≤ n → length bytes ≤ m → cut_in n at bytes ≡ cut_in m at bytes
unfolding cut_in
cut_enough n m at [] p q = refl
cut_enough zero m at (b ∷ bs) p q = absurd (omega arith)
cut_enough (suc n) zero at (b ∷ bs) p q = absurd (omega arith)
cut_enough (suc n) (suc m) at (b ∷ bs) p q =
    bind_same (field_at at (b ∷ bs)) (λ f. cut_in n (at + (length (b ∷ bs) - length f.1)) f.1 >>= λ fs. Ok (f.0 ∷ fs)) (λ f. cut_in m (at + (length (b ∷ bs) - length f.1)) f.1 >>= λ fs. Ok (f.0 ∷ fs)) (λ f e.
    let s = field_shorter at (b ∷ bs) f.0 f.1 e in
    let p1 : length f.1 ≤ n = omega arith in
    let q1 : length f.1 ≤ m = omega arith in
    ap (λ z. z >>= λ fs. Ok (f.0 ∷ fs)) (cut_enough n m (at + (length (b ∷ bs) - length f.1)) f.1 p1 q1))

-- one field, and then the rest
pub cut_step : (n at : ℕ) (bytes : List ℕ) (f : Field) (rest : List ℕ) → length bytes ≤ n → field_at at bytes ≡ Ok (f, rest)
    → cut_in n at bytes ≡ (cut_in (length rest) (at + (length bytes - length rest)) rest >>= λ fs. Ok (f ∷ fs))
unfolding cut_in
cut_step n at [] f rest p e = absurd (let s = field_shorter at [] f rest e in omega arith)
cut_step zero at (b ∷ bs) f rest p e = absurd (omega arith)
cut_step (suc n) at (b ∷ bs) f rest p e =
    let s = field_shorter at (b ∷ bs) f rest e in
    let few : length rest ≤ n = omega arith in
    let same : length rest ≤ length rest = omega arith in
    rw (e, cut_enough n (length rest) (at + (length (b ∷ bs) - length rest)) rest few same) refl

pub cut_stops : (n at : ℕ) (bytes : List ℕ) (e : WireFault) → 0 < length bytes → length bytes ≤ n → field_at at bytes ≡ Err e → cut_in n at bytes ≡ Err e
unfolding cut_in
cut_stops n at [] e s p h = absurd (omega arith)
cut_stops zero at (b ∷ bs) e s p h = absurd (omega arith)
cut_stops (suc n) at (b ∷ bs) e s p h = rw h refl

regroup : (front : List Field) (f : Field) (read : Result (List Field) WireFault) → with_front front (read >>= λ fs. Ok (f ∷ fs)) ≡ with_front (front ++ f ∷ []) read
regroup front f (Ok fs) = ap Ok (simp append_assoc)
regroup front f (Err e) = refl

from_none : (read : Result (List Field) WireFault) → with_front [] read ≡ read
from_none (Ok fs) = refl
from_none (Err e) = refl

pub cut_starts : (at : ℕ) (bytes : List ℕ) → with_front [] (cut_in (length bytes) (at + (length bytes - length bytes)) bytes) ≡ cut at bytes
unfolding cut
cut_starts at bytes =
    let here : at + (length bytes - length bytes) ≡ at = omega arith in
    rw here (from_none (cut_in (length bytes) at bytes))

pub cut_goes_on : (done : List Field) (at whole : ℕ) (rest : List ℕ) (f : Field) (after : List ℕ) (total : Result (List Field) WireFault) → length rest ≤ whole
    → field_at (at + (whole - length rest)) rest ≡ Ok (f, after)
    → with_front done (cut_in (length rest) (at + (whole - length rest)) rest) ≡ total
    → with_front (done ++ f ∷ []) (cut_in (length after) (at + (whole - length after)) after) ≡ total
cut_goes_on done at whole rest f after total le e so_far =
    let s = field_shorter (at + (whole - length rest)) rest f after e in
    let here : at + (whole - length rest) + (length rest - length after) ≡ at + (whole - length after) = omega arith in
    let same : length rest ≤ length rest = omega arith in
    let one = cut_step (length rest) (at + (whole - length rest)) rest f after same e in
    sym (ap (with_front done) one ∙ regroup done f (cut_in (length after) (at + (whole - length rest) + (length rest - length after)) after) ∙ ap (λ z. with_front (done ++ f ∷ []) (cut_in (length after) z after)) here) ∙ so_far

pub cut_ends : (done : List Field) (here : ℕ) (rest : List ℕ) (e : WireFault) (total : Result (List Field) WireFault) → eqb (length rest) 0 ≡ false → field_at here rest ≡ Err e
    → with_front done (cut_in (length rest) here rest) ≡ total → total ≡ Err e
cut_ends done here [] e total some h so_far = absurd cc
cut_ends done here (b ∷ bs) e total some h so_far = sym so_far ∙ ap (with_front done) (cut_stops (length (b ∷ bs)) here (b ∷ bs) e (omega arith) (omega arith) h)

pub cut_is_done : (done : List Field) (n here : ℕ) (rest : List ℕ) (total : Result (List Field) WireFault) → rest ≡ [] → with_front done (cut_in n here rest) ≡ total → total ≡ Ok done
unfolding cut_in
cut_is_done done n here rest total none so_far = sym so_far ∙ ap (λ z. with_front done (cut_in n here z)) none ∙ ap Ok (append-nil done)

-- what holds of a fault holds of it also where memory is left out
pub or_memory : (P : WireFault → Type 0) (e : WireFault) → P e → OrMemory told_of P e
or_memory P (fault.Cut a) h = h
or_memory P (fault.LongVarint a) h = h
or_memory P (fault.Group a) h = h
or_memory P (fault.ZeroField a) h = h
or_memory P fault.Memory h = tt
