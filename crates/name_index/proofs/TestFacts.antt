-- Tests on texts and lists.
use Rattle.std.proofs.Common.{◌≡◌, ℕ, List, [], ◌∷◌, Bool, true, false, cond, not, ◌||◌, ◌&&◌, refl, sym, ap, map, ◌∙◌, true≢false}
use Rattle.std.specs.List.{filter, list_any}
use Rattle.std.specs.Str.{bytes_eq}
use Rattle.std.proofs.lemmas.Bool.{false_from_ne_true}
use Rattle.std.proofs.lemmas.Slice.Eq.{bytes_eq-Decides}

pub same_bytes : (xs ys : List ℕ) → bytes_eq xs ys ≡ true → xs ≡ ys
same_bytes xs ys h = (bytes_eq-Decides xs ys).0 h

pub bytes_eq-refl : (xs : List ℕ) → bytes_eq xs xs ≡ true
bytes_eq-refl xs = (bytes_eq-Decides xs xs).1 refl

pub bytes_eq-other_way : (xs ys : List ℕ) → bytes_eq xs ys ≡ false → bytes_eq ys xs ≡ false
bytes_eq-other_way xs ys h =
    false_from_ne_true (bytes_eq ys xs) (λ t. true≢false (sym ((bytes_eq-Decides xs ys).1 (sym (same_bytes ys xs t))) ∙ h))

-- the parts of a test that joins two
pub and-left : (a b : Bool) → (a && b) ≡ true → a ≡ true
and-left true b h = refl
and-left false b h = absurd (true≢false (sym h))

pub and-right : (a b : Bool) → (a && b) ≡ true → b ≡ true
and-right true b h = h
and-right false b h = absurd (true≢false (sym h))

pub or-left : (a b : Bool) → (a || b) ≡ false → a ≡ false
or-left true b h = absurd (true≢false h)
or-left false b h = refl

pub or-right : (a b : Bool) → (a || b) ≡ false → b ≡ false
or-right true b h = absurd (true≢false h)
or-right false b h = h

pub not-true : (a : Bool) → not a ≡ true → a ≡ false
not-true true h = absurd (true≢false (sym h))
not-true false h = refl

module _ {X : Type 0} (p q : X → Bool) where
  pub filter-swap : (xs : List X) → filter p (filter q xs) ≡ filter q (filter p xs)
  filter-swap [] = refl
  filter-swap (x ∷ xs) = by (p x) refl (q x) refl (filter-swap xs)
    where
      by : (a : Bool) → p x ≡ a → (b : Bool) → q x ≡ b → filter p (filter q xs) ≡ filter q (filter p xs)
          → filter p (cond (q x) (x ∷ filter q xs) (filter q xs)) ≡ filter q (cond (p x) (x ∷ filter p xs) (filter p xs))
      by true e true f more = rw (e, f) (rw e (ap (λ (ys : List X). x ∷ ys) more))
      by true e false f more = rw (e, f) more
      by false e true f more = rw (e, f) (rw e more)
      by false e false f more = rw (e, f) more

module _ {X : Type 0} (p : X → Bool) where
  -- where nothing passes, nothing is left
  pub filter-none : (xs : List X) → list_any p xs ≡ false → filter p xs ≡ []
  filter-none [] h = refl
  filter-none (x ∷ xs) h = rw (or-left (p x) (list_any p xs) h) (filter-none xs (or-right (p x) (list_any p xs) h))

  pub list_any-map : {Y : Type 0} (f : Y → X) (ys : List Y) → list_any p (map f ys) ≡ list_any (λ (y : Y). p (f y)) ys
  list_any-map f [] = refl
  list_any-map f (y ∷ ys) = ap (λ (b : Bool). p (f y) || b) (list_any-map f ys)

pub or-last : (a b : Bool) → b ≡ true → (a || b) ≡ true
or-last true b h = refl
or-last false b h = h
