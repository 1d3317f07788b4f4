-- Names put in order.
use Rattle.std.proofs.Common.{◌≡◌, ℕ, ◌+◌, ◌<◌, ◌≤◌, suc, zero, Bool, true, List, [], ◌∷◌, ◌++◌, ◌⊎◌, inl, inr, refl, sym, ◌∙◌, ap, subst, arith}
use Rattle.std.specs.List.{filter, flat_map, range_with_len}
use Rattle.std.specs.Ordering.{ordering_reverse}
use Rattle.std.specs.declared.cmp.Ordering.{Ordering}
use Rattle.std.specs.declared.cmp.Ordering.TheVariants.{Less, Equal, Greater}
use Rattle.otp_model.specs.Names.{run_name_cmp}
use Rattle.otp_model.specs.Schedule.{in_order, with_name}
use Rattle.otp_model.specs.declared.run_name.RunName.{RunName}
use Rattle.otp_model.proofs.NameLemmas.{run_name_cmp_total, same_name}
use Rattle.otp_model.proofs.RisingLemmas.{AreAbove, IsIn, Rises, above_lower}
use Rattle.otp_model.proofs.JudgedLemmas.{by_test}

by_order : {P : Type 0} (o : Ordering) → (o ≡ Less → P) → (o ≡ Equal → P) → (o ≡ Greater → P) → P
by_order Less f g h = f refl
by_order Equal f g h = g refl
by_order Greater f g h = h refl

in_with : (v name : RunName) (names : List RunName) → (name ≡ v) ⊎ IsIn v names → IsIn v (with_name name names)
unfolding with_name
in_with v name [] i = i
in_with v name (other ∷ names) i =
    by_order (run_name_cmp name other)
    (λ e. rw e i)
    (λ e. rw e (elim i [ inl s ↦ inl (sym (same_name name other e) ∙ s) | inr j ↦ j ]))
    (λ e. rw e (elim i [ inl s ↦ inr (in_with v name names (inl s)) | inr j ↦ elim j [ inl s ↦ inl s | inr k ↦ inr (in_with v name names (inr k)) ] ]))

from_with : (v name : RunName) (names : List RunName) → IsIn v (with_name name names) → (name ≡ v) ⊎ IsIn v names
unfolding with_name
from_with v name [] i = i
from_with v name (other ∷ names) i =
    by_order (run_name_cmp name other)
    (λ e. rw e at i)
    (λ e. inr (rw e at i))
    (λ e.
    let j : (other ≡ v) ⊎ IsIn v (with_name name names) = rw e at i in
    elim j [ inl s ↦ inr (inl s) | inr k ↦ elim (from_with v name names k) [ inl s ↦ inl s | inr l ↦ inr (inr l) ] ])

above_with : (v name : RunName) (names : List RunName) → run_name_cmp v name ≡ Less → AreAbove run_name_cmp v names → AreAbove run_name_cmp v (with_name name names)
unfolding with_name
above_with v name [] h a = (h, tt)
above_with v name (other ∷ names) h a =
    by_order (run_name_cmp name other)
    (λ e. rw e (h, a))
    (λ e. rw e a)
    (λ e. rw e (a.0, above_with v name names h a.1))

rises_with : (name : RunName) (names : List RunName) → Rises run_name_cmp names → Rises run_name_cmp (with_name name names)
unfolding with_name
rises_with name [] r = (tt, tt)
rises_with name (other ∷ names) r =
    by_order (run_name_cmp name other)
    (λ e. rw e ((e, above_lower run_name_cmp run_name_cmp_total name other names e r.0), r))
    (λ e. rw e r)
    (λ e. rw e (above_with other name names (run_name_cmp_total.antisymm other name ∙ ap ordering_reverse e) r.0, rises_with name names r.1))

pub in_ordered : (v : RunName) (names : List RunName) → IsIn v names → IsIn v (in_order names)
unfolding in_order
in_ordered v [] i = i
in_ordered v (name ∷ names) (inl s) = in_with v name (in_order names) (inl s)
in_ordered v (name ∷ names) (inr i) = in_with v name (in_order names) (inr (in_ordered v names i))

pub from_ordered : (v : RunName) (names : List RunName) → IsIn v (in_order names) → IsIn v names
unfolding in_order
from_ordered v [] i = i
from_ordered v (name ∷ names) i = elim (from_with v name (in_order names) i) [ inl s ↦ inl s | inr j ↦ inr (from_ordered v names j) ]

pub rises_ordered : (names : List RunName) → Rises run_name_cmp (in_order names)
unfolding in_order
rises_ordered [] = tt
rises_ordered (name ∷ names) = rises_with name (in_order names) (rises_ordered names)

pub in_left : {K : Type 0} (v : K) (xs ys : List K) → IsIn v xs → IsIn v (xs ++ ys)
in_left v [] ys i = absurd i
in_left v (x ∷ xs) ys (inl s) = inl s
in_left v (x ∷ xs) ys (inr i) = inr (in_left v xs ys i)

pub in_right : {K : Type 0} (v : K) (xs ys : List K) → IsIn v ys → IsIn v (xs ++ ys)
in_right v [] ys i = i
in_right v (x ∷ xs) ys i = inr (in_right v xs ys i)

in_either : {K : Type 0} (v : K) (xs ys : List K) → IsIn v (xs ++ ys) → IsIn v xs ⊎ IsIn v ys
in_either v [] ys i = inr i
in_either v (x ∷ xs) ys (inl s) = inl (inl s)
in_either v (x ∷ xs) ys (inr i) = elim (in_either v xs ys i) [ inl j ↦ inl (inr j) | inr j ↦ inr j ]

-- what one number of a range gives
pub in_range : {K : Type 0} (g : ℕ → List K) (v : K) (from count number : ℕ) → from ≤ number → number < from + count → IsIn v (g number) → IsIn v (flat_map g (range_with_len from count))
in_range g v from zero number low high i = absurd (omega arith)
in_range g v from (suc count) number low high i = elim (cases from number low) [
  | inl s ↦ in_left v (g from) (flat_map g (range_with_len (from + 1) count)) (subst (λ (n : ℕ). IsIn v (g n)) (sym s) i)
  | inr more ↦ in_right v (g from) (flat_map g (range_with_len (from + 1) count)) (in_range g v (from + 1) count number (omega arith) (omega arith) i)
]
  where
    cases : (m n : ℕ) → m ≤ n → (m ≡ n) ⊎ (m + 1 ≤ n)
    cases zero zero h = inl refl
    cases zero (suc n) h = inr (omega arith)
    cases (suc m) zero h = absurd (omega arith)
    cases (suc m) (suc n) h = elim (cases m n (omega arith)) [ inl s ↦ inl (ap suc s) | inr k ↦ inr (omega arith) ]

pub from_flat : {A K : Type 0} (g : A → List K) (v : K) (xs : List A) → IsIn v (flat_map g xs) → (x : A) × IsIn v (g x)
from_flat g v [] i = absurd i
from_flat g v (x ∷ xs) i = elim (in_either v (g x) (flat_map g xs) i) [ inl j ↦ (x, j) | inr j ↦ from_flat g v xs j ]

pub in_filter : {K : Type 0} (p : K → Bool) (v : K) (xs : List K) → p v ≡ true → IsIn v xs → IsIn v (filter p xs)
in_filter p v [] h i = absurd i
in_filter p v (x ∷ xs) h (inl s) = rw (ap p s ∙ h) (inl s)
in_filter p v (x ∷ xs) h (inr i) = by_test (p x) (λ e. rw e (inr (in_filter p v xs h i))) (λ e. rw e (in_filter p v xs h i))

pub passes_filter : {K : Type 0} (p : K → Bool) (v : K) (xs : List K) → IsIn v (filter p xs) → p v ≡ true
passes_filter p v [] i = absurd i
passes_filter p v (x ∷ xs) i =
    by_test (p x)
    (λ e. let j : (x ≡ v) ⊎ IsIn v (filter p xs) = rw e at i in elim j [ inl s ↦ ap p (sym s) ∙ e | inr k ↦ passes_filter p v xs k ])
    (λ e. passes_filter p v xs (rw e at i))
