-- Distances, and the least of some walks.
use Rattle.std.proofs.Common.{arith, ◌≡◌, ℕ, ◌+◌, ◌*◌, ◌<◌, ◌≤◌, List, [], ◌∷◌, ◌++◌, length, take, get_or, Option, Some, None, sym, ap, subst, ◌∙◌, ◌⊎◌, inl, inr}
use Rattle.std.specs.Int.{div_ceil}
use Rattle.std.proofs.lemmas.Bool.{cases_lt}
use Rattle.std.proofs.lemmas.List.{take_more, take_all}
use Rattle.std.proofs.lemmas.List.Elements.{Contains-append_left, Contains-push, Contains-push_cases}
use Rattle.otp_model.specs.declared.timetable.Point.{Point}
use Rattle.otp_model.specs.declared.timetable.Profile.{Profile}
use Rattle.otp_model.specs.Plane.{square_apart, IsDistance}
use Rattle.otp_base.specs.Adds.{IsOnly}
use Rattle.walk_table.specs.Walks.{IsWalkTo, lesser, IsLeastWalk}
use Rattle.std.proofs.Math.Nat.{mul-le-mul}

-- squares rise
pub squares : (a b : ℕ) → a ≤ b → a * a ≤ b * b
squares a b h = mul-le-mul h h

pub roots : (a b : ℕ) → a * a < b * b → a < b
roots a b h = elim (cases_lt a b) [ inl l ↦ l | inr l ↦ absurd (let k = squares b a l in omega arith) ]

-- one side alone is beyond the reach
pub beyond : (reach a b : ℕ) → (reach < a) ⊎ (reach < b) → reach * reach < a * a + b * b
beyond reach a b (inl l) = let k = squares (reach + 1) a (omega arith) in omega arith
beyond reach a b (inr l) = let k = squares (reach + 1) b (omega arith) in omega arith

pub same_distance : (n d e : ℕ) → IsDistance n d → IsDistance n e → d ≡ e
same_distance n d e h k = let a = h.least e k.enough in let b = k.least d h.enough in omega arith

pub same_walk : (profile : Profile) (p q : Point) (s t : ℕ) → IsWalkTo profile p q s → IsWalkTo profile p q t → s ≡ t
same_walk profile p q s t h k = h.1.seconds_are ∙ ap (λ (d : ℕ). div_ceil d profile.speed) (same_distance (square_apart p q) h.1.distance k.1.distance h.1.is_distance k.1.is_distance) ∙ sym k.1.seconds_are

pub least_none : (profile : Profile) (q : Point) → IsLeastWalk profile [] q None
least_none profile q p s h = absurd (omega (arith, h.1))

-- one point more
pub least_more : (profile : Profile) (points : List Point) (p q : Point) (o w : Option ℕ) → IsLeastWalk profile points q o → IsOnly (IsWalkTo profile p q) w → IsLeastWalk profile (points ++ p ∷ []) q (lesser o w)
least_more profile points p q None None h k = λ r s c e. elim (Contains-push_cases points p r c) [ inl a ↦ h r s a e | inr same ↦ k s (subst (λ (z : Point). IsWalkTo profile z q s) (sym same) e) ]
least_more profile points p q None (Some b) h k = (
  (p, Contains-push points p, k.0),
  (λ r s c e. elim (Contains-push_cases points p r c) [ inl a ↦ absurd (h r s a e) | inr same ↦ (let z = k.1 s (subst (λ (z : Point). IsWalkTo profile z q s) (sym same) e) in omega arith) ]),
)
least_more profile points p q (Some a) None h k = (
  (h.0.0, Contains-append_left points (p ∷ []) h.0.0 h.0.1, h.0.2),
  (λ r s c e. elim (Contains-push_cases points p r c) [ inl x ↦ h.1 r s x e | inr same ↦ absurd (k s (subst (λ (z : Point). IsWalkTo profile z q s) (sym same) e)) ]),
)
least_more profile points p q (Some a) (Some b) h k = (
  elim (cases_lt a b) [
    | inl l ↦ (h.0.0, Contains-append_left points (p ∷ []) h.0.0 h.0.1, subst (IsWalkTo profile h.0.0 q) (omega arith) h.0.2)
    | inr l ↦ (p, Contains-push points p, subst (IsWalkTo profile p q) (omega arith) k.0)
  ],
  (λ r s c e. elim (Contains-push_cases points p r c) [ inl x ↦ (let z = h.1 r s x e in omega arith) | inr same ↦ (let z = k.1 s (subst (λ (z : Point). IsWalkTo profile z q s) (sym same) e) in omega arith) ]),
)

pub least_more_at : (profile : Profile) (points : List Point) (i : ℕ) (d q : Point) (o w r : Option ℕ) → i < length points → IsLeastWalk profile (take i points) q o → IsOnly (IsWalkTo profile (get_or points i d) q) w → r ≡ lesser o w → IsLeastWalk profile (take (i + 1) points) q r
least_more_at profile points i d q o w r l h k e =
    subst (λ (ps : List Point). IsLeastWalk profile ps q r) (sym (take_more points i d l))
    (subst (IsLeastWalk profile (take i points ++ get_or points i d ∷ []) q) (sym e) (least_more profile (take i points) (get_or points i d) q o w h k))

pub least_all : (profile : Profile) (points : List Point) (i : ℕ) (q : Point) (o : Option ℕ) → length points ≤ i → IsLeastWalk profile (take i points) q o → IsLeastWalk profile points q o
least_all profile points i q o l h = subst (λ (ps : List Point). IsLeastWalk profile ps q o) (take_all i points l) h
