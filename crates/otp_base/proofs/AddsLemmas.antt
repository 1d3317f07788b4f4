-- How what is added by steps joins.
use Rattle.std.proofs.Common.{◌↔◌, Option, Some, None, ◌≡◌, ℕ, ◌+◌, ◌<◌, ◌≤◌, List, [], ◌∷◌, ◌++◌, length, get_or, take, sym, ap, subst, ◌∙◌, ◌⊎◌, inl, inr, arith}
use Rattle.std.specs.List.{Contains}
use Rattle.std.specs.Option.{option_to_list}
use Rattle.std.proofs.lemmas.Bool.{cases_lt}
use Rattle.std.proofs.lemmas.List.{take_more, take_all, append-nil, get_or_default}
use Rattle.std.proofs.lemmas.List.Elements.{Contains-append_left, Contains-push, Contains-push_cases}
use Rattle.otp_base.specs.Adds.{IsOnly, Adds, FromBelow, FromSome}

pub adds_none : {X : Type 0} (P : X → Type 0) (xs : List X) → ((x : X) → P x → ⊥) → Adds P xs xs
adds_none P xs never = record { kept = λ x h. h; added = λ x h. absurd (never x h); only = λ x h. inl h }

pub adds_push : {X : Type 0} (P : X → Type 0) (xs : List X) (y : X) → P y → ((x : X) → P x → y ≡ x) → Adds P xs (xs ++ y ∷ [])
adds_push P xs y h one = record {
  kept = λ x k. Contains-append_left xs (y ∷ []) x k;
  added = λ x p. subst (λ z. Contains (xs ++ y ∷ []) z) (one x p) (Contains-push xs y);
  only = λ x k. elim (Contains-push_cases xs y x k) [ inl a ↦ inl a | inr e ↦ inr (subst P e h) ];
}

-- the same set said in another way
pub adds_as : {X : Type 0} (P Q : X → Type 0) (xs ys : List X) → ((x : X) → P x → Q x) → ((x : X) → Q x → P x) → Adds P xs ys → Adds Q xs ys
adds_as P Q xs ys f g a = record {
  kept = a.kept;
  added = λ x q. a.added x (g x q);
  only = λ x k. elim (a.only x k) [ inl o ↦ inl o | inr p ↦ inr (f x p) ];
}

-- first the one, then the other
pub adds_then : {X : Type 0} (P Q : X → Type 0) (xs ys zs : List X) → Adds P xs ys → Adds Q ys zs → Adds (λ x. P x ⊎ Q x) xs zs
adds_then P Q xs ys zs a b = record {
  kept = λ x k. b.kept x (a.kept x k);
  added = λ x h. elim h [ inl p ↦ b.kept x (a.added x p) | inr q ↦ b.added x q ];
  only = λ x k. elim (b.only x k) [ inl m ↦ elim (a.only x m) [ inl o ↦ inl o | inr p ↦ inr (inl p) ] | inr q ↦ inr (inr q) ];
}

-- a loop's step over numbers
pub adds_more_below : {X : Type 0} (R : ℕ → X → Type 0) (i : ℕ) (xs ys zs : List X) → Adds (FromBelow R i) xs ys → Adds (R i) ys zs → Adds (FromBelow R (i + 1)) xs zs
adds_more_below {X} R i xs ys zs a b =
    adds_as (λ x. FromBelow R i x ⊎ R i x) (FromBelow R (i + 1)) xs zs there back (adds_then (FromBelow R i) (R i) xs ys zs a b)
  where
    there : (x : X) → FromBelow R i x ⊎ R i x → FromBelow R (i + 1) x
    there x (inl h) = (h.0, omega arith, h.2)
    there x (inr h) = (i, omega arith, h)

    back : (x : X) → FromBelow R (i + 1) x → FromBelow R i x ⊎ R i x
    back x h = elim (cases_lt h.0 i) [ inl k ↦ inl (h.0, k, h.2) | inr k ↦ inr (subst (λ j. R j x) (omega arith) h.2) ]

-- a loop's step over a list
pub adds_more_some : {A X : Type 0} (R : A → X → Type 0) (as' : List A) (i : ℕ) (a : A) (xs ys zs : List X) → i < length as' → a ≡ get_or as' i a → Adds (FromSome R (take i as')) xs ys → Adds (R a) ys zs → Adds (FromSome R (take (i + 1) as')) xs zs
adds_more_some {A} {X} R as' i a xs ys zs l e f b =
    adds_as (λ x. FromSome R (take i as') x ⊎ R a x) (FromSome R (take (i + 1) as')) xs zs there back (adds_then (FromSome R (take i as')) (R a) xs ys zs f b)
  where
    more : take (i + 1) as' ≡ take i as' ++ a ∷ []
    more = take_more as' i a l ∙ ap (λ z. take i as' ++ z ∷ []) (sym e)

    there : (x : X) → FromSome R (take i as') x ⊎ R a x → FromSome R (take (i + 1) as') x
    there x (inl h) = (h.0, rw more (Contains-append_left (take i as') (a ∷ []) h.0 h.1), h.2)
    there x (inr h) = (a, rw more (Contains-push (take i as') a), h)

    back : (x : X) → FromSome R (take (i + 1) as') x → FromSome R (take i as') x ⊎ R a x
    back x h = elim (Contains-push_cases (take i as') a h.0 (rw more at h.1)) [ inl k ↦ inl (h.0, k, h.2) | inr k ↦ inr (subst (λ z. R z x) (sym k) h.2) ]

-- what the push of an option adds
pub adds_option : {X : Type 0} (P : X → Type 0) (xs ys : List X) (o : Option X) → ys ≡ xs ++ option_to_list o → IsOnly P o → Adds P xs ys
adds_option P xs ys None e h = rw (e, append-nil xs) (adds_none P xs h)
adds_option P xs ys (Some y) e h = rw e (adds_push P xs y h.0 h.1)

-- the same, where the element is read with a default
pub adds_more_at : {A X : Type 0} (R : A → X → Type 0) (as' : List A) (i : ℕ) (d : A) (xs ys zs : List X) → i < length as' → Adds (FromSome R (take i as')) xs ys → Adds (R (get_or as' i d)) ys zs → Adds (FromSome R (take (i + 1) as')) xs zs
adds_more_at R as' i d xs ys zs l f b = adds_more_some R as' i (get_or as' i d) xs ys zs l (get_or_default as' i d (get_or as' i d) l) f b

-- the whole list was gone through
pub adds_some_all : {A X : Type 0} (R : A → X → Type 0) (as' : List A) (i : ℕ) (xs ys : List X) → length as' ≤ i → Adds (FromSome R (take i as')) xs ys → Adds (FromSome R as') xs ys
adds_some_all R as' i xs ys l f = rw (take_all i as' l) at f

-- what is added to nothing is the set
pub Contains-adds : {X : Type 0} (P : X → Type 0) (ys : List X) → Adds P [] ys → (x : X) → Contains ys x ↔ P x
Contains-adds P ys a x = (λ k. elim (a.only x k) [ inl z ↦ absurd (omega (arith, z.1)) | inr h ↦ h ], a.added x)
