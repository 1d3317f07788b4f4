-- The greatest of some numbers, and the rows that lead to a stop.
use Rattle.std.proofs.Common.{arith, ◌≡◌, ℕ, ◌+◌, ◌<◌, ◌≤◌, max, List, [], ◌∷◌, ◌++◌, length, take, get_or, ◌⊎◌, inl, inr, refl, sym, subst}
use Rattle.std.specs.List.{Any, Contains}
use Rattle.std.proofs.lemmas.Bool.{cases_lt}
use Rattle.std.proofs.lemmas.List.{take_more, take_all}
use Rattle.std.proofs.lemmas.List.Elements.{Contains-append_left, Contains-push, Contains-push_cases}
use Rattle.otp_base.specs.Adds.{FromSome}
use Rattle.walk_table.specs.Edges.{IsGreatest}

pub any_of : {X : Type 0} (P : X → Type 0) (xs : List X) (x : X) → Contains xs x → P x → Any P xs
any_of P xs x c h = (c.0, x, c.1, c.2, h)

pub of_any : {X : Type 0} (P : X → Type 0) (xs : List X) → Any P xs → (x : X) × Contains xs x × P x
of_any P xs a = (a.1, (a.0, a.2, a.3), a.4)

pub greatest_none : (P : ℕ → Type 0) → ((n : ℕ) → P n → ⊥) → IsGreatest P 0
greatest_none P never = record { enough = λ m h. absurd (never m h); reached = inl refl }

-- the same numbers said in another way
pub greatest_as : (P Q : ℕ → Type 0) (n : ℕ) → ((m : ℕ) → P m → Q m) → ((m : ℕ) → Q m → P m) → IsGreatest P n → IsGreatest Q n
greatest_as P Q n f g h = record {
  enough = λ m q. h.enough m (g m q);
  reached = elim h.reached [ inl z ↦ inl z | inr p ↦ inr (f n p) ];
}

pub greatest_same : (P : ℕ → Type 0) (a b : ℕ) → IsGreatest P a → IsGreatest P b → a ≡ b
greatest_same P a b h k =
    let up : a ≤ b = elim h.reached [ inl z ↦ omega arith | inr p ↦ k.enough a p ] in
    let down : b ≤ a = elim k.reached [ inl z ↦ omega arith | inr p ↦ h.enough b p ] in
    omega arith

pub greatest_join : (P Q : ℕ → Type 0) (a b r : ℕ) → IsGreatest P a → IsGreatest Q b → r ≡ max a b → IsGreatest (λ n. P n ⊎ Q n) r
greatest_join P Q a b r h k e = record {
  enough = λ m s. elim s [ inl p ↦ (let x = h.enough m p in omega arith) | inr q ↦ (let x = k.enough m q in omega arith) ];
  reached = elim (cases_lt a b) [
    | inl l ↦ (let same : b ≡ r = omega arith in elim k.reached [ inl z ↦ inl (omega arith) | inr q ↦ inr (inr (subst Q same q)) ])
    | inr l ↦ (let same : a ≡ r = omega arith in elim h.reached [ inl z ↦ inl (omega arith) | inr p ↦ inr (inl (subst P same p)) ])
  ];
}

-- what the elements so far give, and what the next one gives
pub some_split : {A : Type 0} (R : A → ℕ → Type 0) (xs : List A) (x : A) (n : ℕ) → FromSome R (xs ++ x ∷ []) n → FromSome R xs n ⊎ R x n
some_split R xs x n h = elim (Contains-push_cases xs x h.0 h.1) [ inl c ↦ inl (h.0, c, h.2) | inr same ↦ inr (subst (λ z. R z n) (sym same) h.2) ]

pub some_joined : {A : Type 0} (R : A → ℕ → Type 0) (xs : List A) (x : A) (n : ℕ) → FromSome R xs n ⊎ R x n → FromSome R (xs ++ x ∷ []) n
some_joined R xs x n (inl h) = (h.0, Contains-append_left xs (x ∷ []) h.0 h.1, h.2)
some_joined R xs x n (inr h) = (x, Contains-push xs x, h)

-- one element more
pub greatest_more : {A : Type 0} (R : A → ℕ → Type 0) (xs : List A) (i : ℕ) (d : A) (a b r : ℕ) → i < length xs → IsGreatest (FromSome R (take i xs)) a → IsGreatest (R (get_or xs i d)) b → r ≡ max a b → IsGreatest (FromSome R (take (i + 1) xs)) r
greatest_more {A} R xs i d a b r l h k e =
    rw (take_more xs i d l) (greatest_as (λ n. FromSome R (take i xs) n ⊎ R (get_or xs i d) n) (FromSome R (take i xs ++ get_or xs i d ∷ [])) r
    (some_joined R (take i xs) (get_or xs i d)) (some_split R (take i xs) (get_or xs i d))
    (greatest_join (FromSome R (take i xs)) (R (get_or xs i d)) a b r h k e))

pub greatest_all : {A : Type 0} (R : A → ℕ → Type 0) (xs : List A) (i : ℕ) (a : ℕ) → length xs ≤ i → IsGreatest (FromSome R (take i xs)) a → IsGreatest (FromSome R xs) a
greatest_all R xs i a l h = rw (take_all i xs l) at h
