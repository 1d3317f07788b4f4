-- How many numbers below an end pass a test.
use Rattle.std.proofs.Common.{◌≡◌, ℕ, suc, zero, ◌+◌, ◌<◌, ◌≤◌, Bool, true, false, cond, ◌||◌, List, [], ◌∷◌, ◌++◌, length, refl, sym, ap, ◌∙◌, inl, inr, arith, length-append}
use Rattle.std.specs.Prelude.{nat_eq}
use Rattle.std.specs.List.{filter, range_with_len}
use Rattle.std.proofs.lemmas.Bool.{cases_eq, eq-eqb, ne_eqb}
use Rattle.std.proofs.lemmas.List.Elements.{filter-append}

abbrev pub number : (ℕ → Bool) → ℕ → ℕ
number p end = length (filter p (range_with_len 0 end))

abbrev one_if : Bool → ℕ
one_if b = cond b 1 0

range_next : (a n : ℕ) → range_with_len a (suc n) ≡ range_with_len a n ++ (a + n) ∷ []
range_next a zero = ap (λ (k : ℕ). k ∷ []) (omega arith)
range_next a (suc n) = ap (λ (rest : List ℕ). a ∷ rest) (range_next (a + 1) n ∙ ap (λ (k : ℕ). range_with_len (a + 1) n ++ k ∷ []) (omega arith))

number_next : (p : ℕ → Bool) (end : ℕ) → number p (suc end) ≡ number p end + one_if (p end)
number_next p end =
    let next : range_with_len 0 (suc end) ≡ range_with_len 0 end ++ end ∷ [] = range_next 0 end ∙ ap (λ (k : ℕ). range_with_len 0 end ++ k ∷ []) (omega arith) in
    ap (λ (xs : List ℕ). length (filter p xs)) next
    ∙ (ap length (filter-append p (range_with_len 0 end) (end ∷ []))
    ∙ (length-append (filter p (range_with_len 0 end)) (cond (p end) (end ∷ []) []) ∙ ap (λ (n : ℕ). number p end + n) (by (p end))))
  where
    by : (b : Bool) → length (cond b (end ∷ []) []) ≡ one_if b
    by true = refl
    by false = refl

pub number_same : (p q : ℕ → Bool) (end : ℕ) → ((k : ℕ) → k < end → p k ≡ q k) → number p end ≡ number q end
number_same p q zero same = refl
number_same p q (suc end) same =
    let last : one_if (p end) ≡ one_if (q end) = ap one_if (same end (omega arith)) in
    let before : number p end ≡ number q end = number_same p q end (λ k less. same k (omega (arith, less))) in
    number_next p end ∙ (omega (arith, last, before) ∙ sym (number_next q end))

pub number_more : (p q : ℕ → Bool) (end time : ℕ) → time < end → p time ≡ false → ((k : ℕ) → q k ≡ (nat_eq k time || p k)) → number q end ≡ number p end + 1
number_more p q zero time less fresh more = absurd (omega (arith, less))
number_more p q (suc end) time less fresh more = elim (cases_eq time end) [
  | inl same ↦
      let others : number q end ≡ number p end =
      number_same q p end (λ k below. more k ∙ ap (λ (b : Bool). b || p k) (ne_eqb k time (λ e. absurd (omega (arith, e, same, below))))) in
      let now : q end ≡ true = more end ∙ ap (λ (b : Bool). b || p end) (eq-eqb end time (sym same)) in
      let then : p end ≡ false = ap p (sym same) ∙ fresh in
      let one : one_if (q end) ≡ 1 = ap one_if now in
      let none : one_if (p end) ≡ 0 = ap one_if then in
      omega (arith, number_next q end, number_next p end, others, one, none)
  | inr other ↦
      let before : number q end ≡ number p end + 1 = number_more p q end time (omega (arith, less, other)) fresh more in
      let last : one_if (q end) ≡ one_if (p end) = ap one_if (more end ∙ ap (λ (b : Bool). b || p end) (ne_eqb end time (λ e. other (sym e)))) in
      omega (arith, number_next q end, number_next p end, before, last)
]

pub number_none : (p : ℕ → Bool) (end : ℕ) → ((k : ℕ) → p k ≡ false) → number p end ≡ 0
number_none p zero none = refl
number_none p (suc end) none =
    let last : one_if (p end) ≡ 0 = ap one_if (none end) in
    omega (arith, number_next p end, last, number_none p end none)

-- no number beyond an end passes
pub number_beyond : (p : ℕ → Bool) (end more : ℕ) → ((k : ℕ) → end ≤ k → p k ≡ false) → number p (end + more) ≡ number p end
number_beyond p end zero none =
    let same : end + 0 ≡ end = omega arith in
    ap (number p) same
number_beyond p end (suc more) none =
    let one_more : end + suc more ≡ suc (end + more) = omega arith in
    let at : number p (end + suc more) ≡ number p (suc (end + more)) = ap (number p) one_more in
    let last : one_if (p (end + more)) ≡ 0 = ap one_if (none (end + more) (omega arith)) in
    omega (arith, at, number_next p (end + more), last, number_beyond p end more none)

pub number_few : (p : ℕ → Bool) (end : ℕ) → number p end ≤ end
number_few p zero = omega arith
number_few p (suc end) = by (p end) (number_next p end) (number_few p end)
  where
    by : (b : Bool) → number p (suc end) ≡ number p end + one_if b → number p end ≤ end → number p (suc end) ≤ suc end
    by true next few = omega (arith, next, few)
    by false next few = omega (arith, next, few)
