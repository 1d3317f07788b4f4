-- What stands under a name in a list whose items have names.
use Rattle.std.proofs.Common.{◌≡◌, ℕ, suc, zero, ◌<◌, Bool, true, false, List, [], ◌∷◌, ◌++◌, map, length, get_or, Option, Some, None, inl, inr, refl, sym, ◌∙◌, ap, subst, arith}
use Rattle.std.specs.List.{Contains, find, list_any}
use Rattle.std.specs.List.Sorted.{IsPermutation}
use Rattle.std.specs.Option.{option_or}
use Rattle.std.specs.Ordering.{is_eq}
use Rattle.std.specs.declared.cmp.Ordering.{Ordering}
use Rattle.std.specs.declared.cmp.Ordering.TheVariants.{Less, Equal, Greater}
use Rattle.std.proofs.lemmas.Cmp.{tied_itself}
use Rattle.std.proofs.lemmas.List.Folds.{find-append}
use Rattle.std.proofs.lemmas.List.Sorted.{Contains-permutation, IsPermutation-cons, IsPermutation-middle, IsPermutation-refl, IsPermutation-sym, IsPermutation-trans}
use Rattle.otp_model.specs.Names.{run_name_cmp}
use Rattle.otp_model.specs.Resolution.{is_same_name}
use Rattle.otp_model.specs.declared.run_name.RunName.{RunName}
use Rattle.otp_model.proofs.JudgedLemmas.{by_test}
use Rattle.otp_model.proofs.NameLemmas.{run_name_cmp_total, same_name}
use Rattle.otp_model.proofs.RisingLemmas.{AreAbove, IsIn, Rises}

equal_from : (o : Ordering) → is_eq o ≡ true → o ≡ Equal
equal_from Less h = cc
equal_from Equal h = refl
equal_from Greater h = cc

pub same_from : (a b : RunName) → is_same_name a b ≡ true → a ≡ b
same_from a b h = same_name a b (equal_from (run_name_cmp a b) h)

pub same_itself : (a : RunName) → is_same_name a a ≡ true
same_itself a = ap is_eq (tied_itself run_name_cmp_total a)

pub same_to : (a b : RunName) → a ≡ b → is_same_name a b ≡ true
same_to a b e = subst (λ (n : RunName). is_same_name a n ≡ true) e (same_itself a)

other_from : (o : Ordering) → o ≡ Less → is_eq o ≡ false
other_from o e = ap is_eq e

-- a name below another is another
pub below_differs : (a b : RunName) → run_name_cmp a b ≡ Less → is_same_name a b ≡ false
below_differs a b h = other_from (run_name_cmp a b) h

pub same_turned : (a b : RunName) → is_same_name a b ≡ is_same_name b a
same_turned a b = from (is_same_name a b) (is_same_name b a) refl refl
  where
    from : (p q : Bool) → is_same_name a b ≡ p → is_same_name b a ≡ q → is_same_name a b ≡ is_same_name b a
    from true q e f = e ∙ sym (same_to b a (sym (same_from a b e)))
    from false true e f = same_to a b (sym (same_from b a f)) ∙ sym f
    from false false e f = e ∙ sym f

module _ {X : Type 0} (key : X → RunName) where
  abbrev pub named : RunName → List X → Option X
  named name xs = find (λ x. is_same_name (key x) name) xs

  abbrev pub has_name : RunName → List X → Bool
  has_name name xs = list_any (λ x. is_same_name (key x) name) xs

  -- no two items have one name
  abbrev pub AreApart : List X → Type 0
  AreApart [] = Unit {0}
  AreApart (x ∷ xs) = (named (key x) xs ≡ None) × AreApart xs

  pub named_append : (name : RunName) (xs ys : List X) → named name (xs ++ ys) ≡ option_or (named name xs) (named name ys)
  named_append name xs ys = find-append (λ x. is_same_name (key x) name) xs ys

  pub named_of : (name : RunName) (xs : List X) (x : X) → named name xs ≡ Some x → key x ≡ name
  named_of name [] x h = absurd (let never : ◌≡◌ {A = Option X} None (Some x) = h in cc)
  named_of name (y ∷ ys) x h =
      by_test (is_same_name (key y) name)
      (λ e. let found : ◌≡◌ {A = Option X} (Some y) (Some x) = rw e at h in let same : y ≡ x = cc in ap key (sym same) ∙ same_from (key y) name e)
      (λ e. named_of name ys x (rw e at h))

  pub lacks_name : (name : RunName) (xs : List X) → named name xs ≡ None → has_name name xs ≡ false
  lacks_name name [] h = refl
  lacks_name name (y ∷ ys) h =
      by_test (is_same_name (key y) name)
      (λ e. absurd (let never : ◌≡◌ {A = Option X} (Some y) None = rw e at h in cc))
      (λ e. rw e (lacks_name name ys (rw e at h)))

  pub shows_name : (name : RunName) (xs : List X) (x : X) → named name xs ≡ Some x → has_name name xs ≡ true
  shows_name name [] x h = absurd (let never : ◌≡◌ {A = Option X} None (Some x) = h in cc)
  shows_name name (y ∷ ys) x h = by_test (is_same_name (key y) name) (λ e. rw e refl) (λ e. rw e (shows_name name ys x (rw e at h)))

  pub some_named : (name : RunName) (xs : List X) → has_name name xs ≡ true → (x : X) × (named name xs ≡ Some x)
  some_named name [] h = absurd (let never : false ≡ true = h in cc)
  some_named name (y ∷ ys) h =
      by_test (is_same_name (key y) name) (λ e. (y, rw e refl)) (λ e. let later = some_named name ys (rw e at h) in (later.0, rw e later.1))

  pub none_named : (name : RunName) (xs : List X) → has_name name xs ≡ false → named name xs ≡ None
  none_named name [] h = refl
  none_named name (y ∷ ys) h =
      by_test (is_same_name (key y) name)
      (λ e. absurd (let never : true ≡ false = rw e at h in cc))
      (λ e. rw e (none_named name ys (rw e at h)))

  -- a list that has no such name has nothing under it
  pub in_named : (name : RunName) (xs : List X) (x : X) → named name xs ≡ Some x → IsIn name (map key xs)
  in_named name [] x h = absurd (let never : ◌≡◌ {A = Option X} None (Some x) = h in cc)
  in_named name (y ∷ ys) x h = by_test (is_same_name (key y) name) (λ e. inl (same_from (key y) name e)) (λ e. inr (in_named name ys x (rw e at h)))

  -- what stands behind what is above a name isn't of it
  pub above_lacks : (name : RunName) (xs : List X) → AreAbove run_name_cmp name (map key xs) → named name xs ≡ None
  above_lacks name [] a = refl
  above_lacks name (x ∷ xs) a = rw (same_turned (key x) name ∙ below_differs name (key x) a.0) (above_lacks name xs a.1)

  pub rising_apart : (xs : List X) → Rises run_name_cmp (map key xs) → AreApart xs
  rising_apart [] r = tt
  rising_apart (x ∷ xs) r = (above_lacks (key x) xs r.0, rising_apart xs r.1)

  -- an item of a list whose names differ is the one of its name
  pub named_here : (xs : List X) (k : ℕ) (d : X) → AreApart xs → k < length xs → named (key (get_or xs k d)) xs ≡ Some (get_or xs k d)
  named_here [] k d a l = absurd (omega arith)
  named_here (x ∷ xs) zero d a l = rw same_itself refl
  named_here (x ∷ xs) (suc k) d a l =
      let later : named (key (get_or xs k d)) xs ≡ Some (get_or xs k d) = named_here xs k d a.1 (omega arith) in
      by_test (is_same_name (key x) (key (get_or xs k d)))
      (λ e.
      let none : named (key (get_or xs k d)) xs ≡ None = subst (λ (n : RunName). named n xs ≡ None) (same_from _ _ e) a.0 in
      absurd (let never : ◌≡◌ {A = Option X} None (Some (get_or xs k d)) = sym none ∙ later in cc))
      (λ e. rw e later)

  -- where an item of a name stands
  pub named_place : (name : RunName) (xs : List X) (x : X) → named name xs ≡ Some x → Contains xs x
  named_place name [] x h = absurd (let never : ◌≡◌ {A = Option X} None (Some x) = h in cc)
  named_place name (y ∷ ys) x h =
      by_test (is_same_name (key y) name)
      (λ e. let found : ◌≡◌ {A = Option X} (Some y) (Some x) = rw e at h in (0, omega arith, (let same : y ≡ x = cc in same)))
      (λ e. let later = named_place name ys x (rw e at h) in (suc later.0, omega (arith, later.1), later.2))

  pub named_some : (xs : List X) (k : ℕ) (d : X) → k < length xs → (x : X) × (named (key (get_or xs k d)) xs ≡ Some x)
  named_some [] k d l = absurd (omega arith)
  named_some (x ∷ xs) zero d l = (x, rw same_itself refl)
  named_some (x ∷ xs) (suc k) d l =
      let later = named_some xs k d (omega arith) in
      by_test (is_same_name (key x) (key (get_or xs k d))) (λ e. (x, rw e refl)) (λ e. (later.0, rw e later.1))

  -- a list in another order has the same under each name
  pub named_permuted : (xs ys : List X) → IsPermutation xs ys → AreApart ys → (name : RunName) → named name xs ≡ named name ys
  named_permuted xs ys p a name = from (named name xs) (named name ys) refl refl
    where
      from : (o q : Option X) → named name xs ≡ o → named name ys ≡ q → named name xs ≡ named name ys
      from None None e f = e ∙ sym f
      from None (Some y) e f =
          let place = Contains-permutation ys xs y (IsPermutation-sym xs ys p) (named_place name ys y f) in
          let some = named_some xs place.0 y place.1 in
          let here : named name xs ≡ Some some.0 = subst (λ (n : RunName). named n xs ≡ Some some.0) (ap key place.2 ∙ named_of name ys y f) some.1 in
          absurd (let never : ◌≡◌ {A = Option X} None (Some some.0) = sym e ∙ here in cc)
      from (Some x) q e f =
          let place = Contains-permutation xs ys x p (named_place name xs x e) in
          let here : named name ys ≡ Some x = subst (λ (z : X). named name ys ≡ Some z) place.2 (subst (λ (n : RunName). named n ys ≡ Some (get_or ys place.0 x)) (ap key place.2 ∙ named_of name xs x e) (named_here ys place.0 x a place.1)) in
          e ∙ sym here

  -- a list at the item of a name
  record IsCut (ys : List X) (x : X) : Type 0 where
    front : List X
    back : List X
    is : ys ≡ front ++ x ∷ back
    before : named (key x) front ≡ None

  cut : (ys : List X) (x : X) → named (key x) ys ≡ Some x → IsCut ys x
  cut [] x h = absurd (let never : ◌≡◌ {A = Option X} None (Some x) = h in cc)
  cut (y ∷ ys) x h =
      by_test (is_same_name (key y) (key x))
      (λ e. let found : ◌≡◌ {A = Option X} (Some y) (Some x) = rw e at h in let same : y ≡ x = cc in record { front = []; back = ys; is = ap (λ (z : X). z ∷ ys) same; before = refl })
      (λ e. let c = cut ys x (rw e at h) in record { front = y ∷ c.front; back = c.back; is = ap (λ (zs : List X). y ∷ zs) c.is; before = rw e c.before })

  none_or : (o p : Option X) → option_or o p ≡ None → (o ≡ None) × (p ≡ None)
  none_or None p h = (refl, h)
  none_or (Some x) p h = absurd (let never : ◌≡◌ {A = Option X} (Some x) None = h in cc)

  -- without one item the names still differ, and its name is gone
  without : (front : List X) (x : X) (back : List X) → AreApart (front ++ x ∷ back) → AreApart (front ++ back) × (named (key x) (front ++ back) ≡ None)
  without [] x back a = (a.1, a.0)
  without (y ∷ front) x back a =
      let rest = without front x back a.1 in
      let parts = none_or (named (key y) front) (named (key y) (x ∷ back)) (sym (named_append (key y) front (x ∷ back)) ∙ a.0) in
      let none = parts.1 in
      by_test (is_same_name (key x) (key y))
      (λ e. absurd (let never : ◌≡◌ {A = Option X} (Some x) None = rw e at none in cc))
      (λ e. ((named_append (key y) front back ∙ rw parts.0 (rw e at none), rest.0), rw (same_turned (key y) (key x) ∙ e) rest.1))

  -- two lists that have the same under each name are one list in two orders
  pub same_named : (xs ys : List X) → AreApart xs → AreApart ys → ((name : RunName) → named name xs ≡ named name ys) → IsPermutation xs ys
  same_named [] [] a b same = IsPermutation-refl []
  same_named [] (y ∷ ys) a b same = absurd (let never : ◌≡◌ {A = Option X} None (Some y) = same (key y) ∙ rw same_itself refl in cc)
  same_named (x ∷ xs) ys a b same =
      let c = cut ys x (sym (same (key x)) ∙ rw same_itself refl) in
      let apart = without c.front x c.back (subst AreApart c.is b) in
      let inner = same_named xs (c.front ++ c.back) a.1 apart.0 (λ name.
      by_test (is_same_name (key x) name)
      (λ e.
      let is = same_from (key x) name e in
      subst (λ (n : RunName). named n xs ≡ None) is a.0 ∙ sym (subst (λ (n : RunName). named n (c.front ++ c.back) ≡ None) is apart.1))
      (λ e.
      let skips : named name (x ∷ xs) ≡ named name xs = rw e refl in
      let passes : named name (x ∷ c.back) ≡ named name c.back = rw e refl in
      sym skips ∙ same name ∙ ap (named name) c.is ∙ named_append name c.front (x ∷ c.back) ∙ rw passes (sym (named_append name c.front c.back)))) in
      let turned : IsPermutation (x ∷ (c.front ++ c.back)) (c.front ++ x ∷ c.back) = IsPermutation-sym _ _ (IsPermutation-middle c.front x c.back) in
      subst (λ (zs : List X). IsPermutation (x ∷ xs) zs) (sym c.is) (IsPermutation-trans _ _ _ (IsPermutation-cons x xs (c.front ++ c.back) inner) turned)
