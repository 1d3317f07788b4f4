-- What a binary search for a name finds.
use Rattle.std.proofs.Common.{◌≡◌, ℕ, ◌+◌, ◌<◌, suc, false, List, [], ◌∷◌, length, get_or, Some, None, refl, sym, ◌∙◌, ap, subst, inl, inr, arith}
use Rattle.std.specs.List.{AllPairs}
use Rattle.std.specs.List.Sorted.{IsNonDecreasingBy, IsPartitionPoint}
use Rattle.std.specs.Ordering.{is_eq, is_lt, ordering_index, ordering_reverse}
use Rattle.std.specs.declared.cmp.Ordering.TheVariants.{Less, Equal, Greater}
use Rattle.std.proofs.lemmas.Bool.{cases_lt}
use Rattle.std.proofs.lemmas.List.Sorted.{searchable_from_sorted}
use Rattle.otp_model.specs.Names.{run_name_cmp}
use Rattle.otp_model.specs.Resolution.{is_same_name}
use Rattle.otp_model.specs.declared.run_name.RunName.{RunName}
use Rattle.otp_model.proofs.NameLemmas.{run_name_cmp_total, same_name}
use Rattle.otp_model.proofs.RisingLemmas.{rises}
use Rattle.change_buffer.proofs.NamedLemmas.{named, named_here, rising_apart}

module _ {X : Type 0} (key : X → RunName) where
  abbrev AreInOrder : List X → Type 0
  AreInOrder xs = AllPairs (λ a b. run_name_cmp (key a) (key b) ≡ Less) xs

  pub found : (name : RunName) (xs : List X) (k : ℕ) (x : X) → AreInOrder xs → k < length xs → x ≡ get_or xs k x → run_name_cmp (key (get_or xs k x)) name ≡ Equal
      → Some x ≡ named key name xs
  found name xs k x order less is same =
      ap (λ (z : X). Some z) is
      ∙ sym (subst (λ (n : RunName). named key n xs ≡ Some (get_or xs k x)) (same_name (key (get_or xs k x)) name same) (named_here key xs k x (rising_apart key xs (rises run_name_cmp key xs order)) less))

  none_of : (name : RunName) (xs : List X) → ((k : ℕ) (d : X) → k < length xs → is_same_name (key (get_or xs k d)) name ≡ false) → named key name xs ≡ None
  none_of name [] differ = refl
  none_of name (x ∷ xs) differ = rw (differ 0 x (omega arith)) (none_of name xs (λ k d l. differ (suc k) d (omega arith)))

  pub not_found : (name : RunName) (xs : List X) (i : ℕ) → AreInOrder xs
      → (IsNonDecreasingBy (λ y. ordering_index (run_name_cmp (key y) name)) xs → IsPartitionPoint (λ y. run_name_cmp (key y) name ≡ Less) (λ y. run_name_cmp (key y) name ≡ Greater) xs i)
      → None ≡ named key name xs
  not_found name xs i order parts =
      let point = parts (searchable_from_sorted run_name_cmp_total key xs name (λ k d low high. ap is_lt (run_name_cmp_total.antisymm (key (get_or xs (k + 1) d)) (key (get_or xs k d)) ∙ ap ordering_reverse (order k (k + 1) d (omega arith) high)))) in
      sym (none_of name xs (λ k d l.
      elim (cases_lt k i) [
        | inl under ↦ ap is_eq (point.0 k d (omega arith) under)
        | inr over ↦ ap is_eq (point.1 k d over l)
      ]))
