-- The front of a sorted list, built entry by entry.
use Rattle.std.proofs.Common.{◌≡◌, ℕ, ◌<◌, false, List, [], ◌∷◌, ◌++◌, length, get_or, map, take, sym, ap, subst, ◌∙◌, ◌⊎◌, inl, inr, arith}
use Rattle.std.specs.List.{Contains, Any, AllPairs}
use Rattle.std.proofs.lemmas.List.Elements.{Contains-append_left, Contains-push, Contains-push_cases, Contains-get_or}
use Rattle.std.proofs.lemmas.List.{length-append, get_or_append_left, get_or-take, length-take, get_or_default, get_or-map, length-map}
use Rattle.std.proofs.lemmas.List.Sorted.{sorted_far, ranks_by, Contains-permutation, IsPermutation-sym}
use Rattle.std.specs.List.Sorted.{IsSortedByKey, IsPermutation}
use Rattle.std.specs.Ordering.{is_lt}
use Rattle.otp_model.proofs.Values.{value_cmp_total, below_from_sorted}
use Rattle.std.proofs.lemmas.List.Quantifiers.{Any-push, all_pairs_push}
use Rattle.otp_model.specs.declared.journey.Value.{Value}
use Rattle.otp_model.specs.declared.journey.Found.{Found}
use Rattle.otp_model.specs.Whole.{Dominates, IsBelow, value_cmp}
use Rattle.pareto_front.specs.Front.{IsFront, IsBeaten, IsKeptOrPassed}

abbrev pub IsBeatenBy : List Value → Value → Type 0
IsBeatenBy values v = Any (λ w. Dominates w v) values

-- the list is what is kept of the offers gone through, where the values are those of all offers
pub record IsFrontSoFar (values : List Value) (gone list : List Found) : Type 0 where
  pub rises : AllPairs (λ a b. IsBelow a.value b.value) list
  pub from : (x : Found) → Contains list x → Contains gone x
  pub unbeaten : (x : Found) → Contains list x → IsBeatenBy values x.value → ⊥
  pub all : (x : Found) → Contains gone x → (IsBeatenBy values x.value → ⊥) → Any (λ found. found.value ≡ x.value) list

-- nothing is gone through yet
pub front_none : (values : List Value) → IsFrontSoFar values [] []
front_none values = record {
  rises = λ i j d l m. absurd (omega arith);
  from = λ x h. h;
  unbeaten = λ x h. absurd (omega (arith, h.1));
  all = λ x h. absurd (omega (arith, h.1));
}

Any-kept : (P : Found → Type 0) (list : List Found) (y : Found) → Any P list → Any P (list ++ y ∷ [])
Any-kept P list y h = (h.0, h.1, omega (arith, length-append list (y ∷ []), h.2), get_or_append_left list (y ∷ []) h.1 h.0 h.2 ∙ h.3, h.4)

-- an offer that is beaten, or whose value is there, is passed over
pub front_passed : (values : List Value) (gone list : List Found) (y : Found) → IsFrontSoFar values gone list → IsBeatenBy values y.value ⊎ Any (λ found. found.value ≡ y.value) list → IsFrontSoFar values (gone ++ y ∷ []) list
front_passed values gone list y f h = record {
  rises = f.rises;
  from = λ x k. Contains-append_left gone (y ∷ []) x (f.from x k);
  unbeaten = f.unbeaten;
  all = λ x k free. elim (Contains-push_cases gone y x k) [
    | inl g ↦ f.all x g free
    | inr e ↦ elim h [ inl b ↦ absurd (free (subst (λ (z : Found). IsBeatenBy values z.value) e b)) | inr a ↦ subst (λ (z : Found). Any (λ found. found.value ≡ z.value) list) e a ]
  ];
}

-- an offer that is not beaten and above all in the list is kept
pub front_kept : (values : List Value) (gone list : List Found) (y : Found) → IsFrontSoFar values gone list → (IsBeatenBy values y.value → ⊥) → ((k : ℕ) (d : Found) → k < length list → IsBelow (get_or list k d).value y.value) → IsFrontSoFar values (gone ++ y ∷ []) (list ++ y ∷ [])
front_kept values gone list y f free above = record {
  rises = all_pairs_push (λ a b. IsBelow a.value b.value) list y f.rises above;
  from = λ x k. elim (Contains-push_cases list y x k) [ inl g ↦ Contains-append_left gone (y ∷ []) x (f.from x g) | inr e ↦ subst (Contains (gone ++ y ∷ [])) e (Contains-push gone y) ];
  unbeaten = λ x k b. elim (Contains-push_cases list y x k) [ inl g ↦ f.unbeaten x g b | inr e ↦ free (subst (λ (z : Found). IsBeatenBy values z.value) (sym e) b) ];
  all = λ x k open'. elim (Contains-push_cases gone y x k) [
    | inl g ↦ Any-kept (λ found. found.value ≡ x.value) list y (f.all x g open')
    | inr e ↦ Any-push (λ found. found.value ≡ x.value) list y (ap (λ (z : Found). z.value) e)
  ];
}

-- what stands in a sorted list before an offer of another value is below it
pub above_all : (sorted gone list : List Found) (n : ℕ) (y : Found) → IsSortedByKey (λ offer. offer.value) value_cmp sorted → gone ≡ take n sorted → n < length sorted → y ≡ get_or sorted n y → ((x : Found) → Contains list x → Contains gone x) → (Any (λ found. found.value ≡ y.value) list → ⊥) → (k : ℕ) (d : Found) → k < length list → IsBelow (get_or list k d).value y.value
above_all sorted gone list n y up e l is from fresh k d m =
    let x : Found = get_or list k d in
    let h = from x (Contains-get_or list k d m) in
    let hl : h.0 < length (take n sorted) = subst (λ (g : List Found). h.0 < length g) e h.1 in
    let hn : h.0 < n = omega (arith, length-take n sorted, hl) in
    let at_x : get_or sorted h.0 x ≡ x = sym (get_or-take n sorted h.0 x hn) ∙ subst (λ (g : List Found). get_or g h.0 x ≡ x) e h.2 in
    let far = sorted_far (λ (a : Found) (b : Found). is_lt (value_cmp a.value b.value)) (ranks_by value_cmp_total (λ (a : Found). a.value)) sorted up h.0 n x (omega arith) l in
    let at_y : get_or sorted n x ≡ y = get_or_default sorted n x y l ∙ sym is in
    below_from_sorted x.value y.value
    (subst (λ (z : Found). is_lt (value_cmp z.value x.value) ≡ false) at_y (subst (λ (z : Found). is_lt (value_cmp (get_or sorted n x).value z.value) ≡ false) at_x far))
    (λ same. fresh (k, x, m, get_or_default list k x d m, same))

-- a loop's step
pub front_more : (values : List Value) (sorted gone list new : List Found) (n : ℕ) (y : Found) → IsSortedByKey (λ offer. offer.value) value_cmp sorted → gone ≡ take n sorted → n < length sorted → y ≡ get_or sorted n y → IsFrontSoFar values gone list → IsKeptOrPassed values list y new → IsFrontSoFar values (gone ++ y ∷ []) new
front_more values sorted gone list new n y up e l is f (inl k) =
    rw k.0 (front_kept values gone list y f k.1.0 (above_all sorted gone list n y up e l is f.from k.1.1))
front_more values sorted gone list new n y up e l is f (inr k) = rw k.0 (front_passed values gone list y f k.1)

-- all offers were gone through
pub front_all : (offers sorted gone list : List Found) (values : List Value) → IsPermutation offers sorted → values ≡ map (λ offer. offer.value) sorted → gone ≡ sorted → IsFrontSoFar values gone list → IsFront offers list
front_all offers sorted gone list values p v e f = record {
  rises = f.rises;
  from = λ x k. back x (subst (λ (g : List Found). Contains g x) e (f.from x k));
  unbeaten = λ x k b. f.unbeaten x k (beaten x b);
  all = λ x k free. f.all x (subst (λ (g : List Found). Contains g x) (sym e) (Contains-permutation offers sorted x p k)) (λ b. free (unbeaten_by x b));
}
  where
    back : (x : Found) → Contains sorted x → Contains offers x
    back x = Contains-permutation sorted offers x (IsPermutation-sym offers sorted p)

    beaten : (x : Found) → IsBeaten offers x.value → IsBeatenBy values x.value
    beaten x b =
        let k = Contains-permutation offers sorted b.0 p b.1 in
        rw v (k.0, b.0.value, omega (arith, length-map sorted (λ (offer : Found). offer.value), k.1), get_or-map (λ (offer : Found). offer.value) sorted k.0 b.0 b.0.value k.1 ∙ ap (λ (offer : Found). offer.value) k.2, b.2)

    unbeaten_by : (x : Found) → IsBeatenBy values x.value → IsBeaten offers x.value
    unbeaten_by x b =
        let h = rw v at b in
        let l : h.0 < length sorted = omega (arith, length-map sorted (λ (offer : Found). offer.value), h.2) in
        let same = sym (get_or-map (λ (offer : Found). offer.value) sorted h.0 x h.1 l) ∙ h.3 in
        (get_or sorted h.0 x, back (get_or sorted h.0 x) (Contains-get_or sorted h.0 x l), subst (λ (w : Value). Dominates w x.value) (sym same) h.4)
