-- Lists that rise strictly by a total order of which equals are one.
use Rattle.std.proofs.Common.{◌≡◌, ℕ, ◌<◌, suc, zero, Bool, List, [], ◌∷◌, ◌++◌, map, length, get_or, ◌⊎◌, inl, inr, refl, sym, ◌∙◌, ap, subst, arith}
use Rattle.std.specs.List.{All, Any, AllPairs, filter}
use Rattle.std.specs.Cmp.{IsTotalOrder}
use Rattle.std.specs.Ordering.{is_lt, ordering_reverse}
use Rattle.std.specs.declared.cmp.Ordering.{Ordering}
use Rattle.std.specs.declared.cmp.Ordering.TheVariants.{Less, Equal, Greater}
use Rattle.std.proofs.lemmas.Cmp.{tied_itself}
use Rattle.std.proofs.lemmas.List.Elements.{All-head, All-tail}

abbrev pub IsIn : {K : Type 0} → K → List K → Type 0
IsIn v [] = ⊥
IsIn v (w ∷ ws) = (w ≡ v) ⊎ IsIn v ws

module _ {K : Type 0} (R : K → K → Ordering) where
  -- all of them are above this one
  abbrev pub AreAbove : K → List K → Type 0
  AreAbove v [] = Unit {0}
  AreAbove v (w ∷ ws) = (R v w ≡ Less) × AreAbove v ws

  abbrev pub Rises : List K → Type 0
  Rises [] = Unit {0}
  Rises (v ∷ vs) = AreAbove v vs × Rises vs

  -- whether it is above this one
  abbrev pub above : K → K → Bool
  above v w = is_lt (R v w)

  pub is_above : (v w : K) (ws : List K) → AreAbove v ws → IsIn w ws → R v w ≡ Less
  is_above v w [] a i = absurd i
  is_above v w (x ∷ xs) a (inl e) = subst (λ z. R v z ≡ Less) e a.0
  is_above v w (x ∷ xs) a (inr i) = is_above v w xs a.1 i

  -- those of a list by their keys

  module _ {X : Type 0} (key : X → K) where
    are_above : (v : K) (xs : List X) → All (λ x. R v (key x) ≡ Less) xs → AreAbove v (map key xs)
    are_above v [] h = tt
    are_above v (x ∷ xs) h =
        (All-head (λ y. R v (key y) ≡ Less) x xs h, are_above v xs (All-tail (λ y. R v (key y) ≡ Less) x xs h))

    pub rises : (xs : List X) → AllPairs (λ a b. R (key a) (key b) ≡ Less) xs → Rises (map key xs)
    rises [] h = tt
    rises (x ∷ xs) h = (
      are_above (key x) xs (λ k d l. h 0 (suc k) d (omega arith) (omega arith)),
      rises xs (λ i j d l m. h (suc i) (suc j) d (omega arith) (omega arith)),
    )

    at_place : (v : K) (xs : List X) (k : ℕ) (x : X) → k < length xs → get_or xs k x ≡ x → key x ≡ v → IsIn v (map key xs)
    at_place v [] k x l e p = absurd (omega arith)
    at_place v (y ∷ ys) zero x l e p = inl (ap key e ∙ p)
    at_place v (y ∷ ys) (suc k) x l e p = inr (at_place v ys k x (omega arith) e p)

    pub in_from_any : (v : K) (xs : List X) → Any (λ x. key x ≡ v) xs → IsIn v (map key xs)
    in_from_any v xs h = at_place v xs h.0 h.1 h.2 h.3 h.4

    pub of_all : (P : K → Type 0) (v : K) (xs : List X) → All (λ x. P (key x)) xs → IsIn v (map key xs) → P v
    of_all P v [] h i = absurd i
    of_all P v (x ∷ xs) h (inl e) = subst P e (All-head (λ y. P (key y)) x xs h)
    of_all P v (x ∷ xs) h (inr i) = of_all P v xs (All-tail (λ y. P (key y)) x xs h) i

  module _ (o : IsTotalOrder R) where
    not_below_itself : (v : K) → R v v ≡ Less → ⊥
    not_below_itself v h = let e : R v v ≡ Equal = tied_itself o v in cc

    -- what is above a second is above a first below it
    pub above_lower : (v w : K) (ws : List K) → R v w ≡ Less → AreAbove w ws → AreAbove v ws
    above_lower v w [] h a = tt
    above_lower v w (x ∷ xs) h a = (o.trans v w x h a.0, above_lower v w xs h a.1)

    all_pass : (v : K) (ws : List K) → AreAbove v ws → filter (above v) ws ≡ ws
    all_pass v [] a = refl
    all_pass v (w ∷ ws) a = rw a.0 (ap (λ z. w ∷ z) (all_pass v ws a.1))

    -- one list has what the other has, and both rise: they are one list
    pub same_lists : (xs ys : List K) → Rises xs → Rises ys → ((v : K) → IsIn v xs → IsIn v ys) → ((v : K) → IsIn v ys → IsIn v xs) → xs ≡ ys
    same_lists [] [] r s f g = refl
    same_lists [] (y ∷ ys) r s f g = absurd (g y (inl refl))
    same_lists (x ∷ xs) [] r s f g = absurd (f x (inl refl))
    same_lists (x ∷ xs) (y ∷ ys) r s f g = ap (λ z. z ∷ xs) heads ∙ ap (λ zs. y ∷ zs) (same_lists xs ys r.1 s.1 there back)
      where
        heads : x ≡ y
        heads =
            elim (f x (inl refl)) [
              | inl e ↦ sym e
              | inr i ↦ elim (g y (inl refl)) [
                | inl e ↦ e
                | inr j ↦ absurd (not_below_itself x (o.trans x y x (is_above x y xs r.0 j) (is_above y x ys s.0 i)))
              ]
            ]

        there : (v : K) → IsIn v xs → IsIn v ys
        there v i =
            elim (f v (inr i)) [
              | inl e ↦ absurd (not_below_itself v (subst (λ z. R z v ≡ Less) (heads ∙ e) (is_above x v xs r.0 i)))
              | inr j ↦ j
            ]

        back : (v : K) → IsIn v ys → IsIn v xs
        back v i =
            elim (g v (inr i)) [
              | inl e ↦ absurd (not_below_itself v (subst (λ z. R z v ≡ Less) (sym heads ∙ e) (is_above y v ys s.0 i)))
              | inr j ↦ j
            ]

    in_middle : (v : K) (front back : List K) → IsIn v (front ++ v ∷ back)
    in_middle v [] back = inl refl
    in_middle v (x ∷ front) back = inr (in_middle v front back)

    -- what is above an element of a list is what stands behind it
    pub above_middle : (v : K) (front back : List K) → Rises (front ++ v ∷ back) → filter (above v) (front ++ v ∷ back) ≡ back
    above_middle v [] back r = rw (tied_itself o v) (all_pass v back r.0)
    above_middle v (x ∷ front) back r =
        let below : R x v ≡ Less = is_above x v (front ++ v ∷ back) r.0 (in_middle v front back) in
        let e : R v x ≡ Greater = o.antisymm v x ∙ ap ordering_reverse below in
        rw e (above_middle v front back r.1)

    -- what is above something in a list is its end
    pub above_is_end : (v : K) (ws : List K) → Rises ws → (front : List K) × (ws ≡ front ++ filter (above v) ws)
    above_is_end v [] r = ([], refl)
    above_is_end v (w ∷ ws) r = from (above_is_end v ws r.1) (R v w) refl
      where
        from : (front : List K) × (ws ≡ front ++ filter (above v) ws) → (x : Ordering) → R v w ≡ x → (front : List K) × (w ∷ ws ≡ front ++ filter (above v) (w ∷ ws))
        from h Less e = ([], rw e (ap (λ z. w ∷ z) (sym (all_pass v ws (above_lower v w ws e r.0)))))
        from h Equal e = (w ∷ h.0, rw e (ap (λ z. w ∷ z) h.1))
        from h Greater e = (w ∷ h.0, rw e (ap (λ z. w ∷ z) h.1))
