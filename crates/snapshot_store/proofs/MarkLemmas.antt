-- What marks tell of names.
use Rattle.std.proofs.Common.{◌≡◌, ℕ, ◌+◌, ◌<◌, Bool, true, false, List, [], ◌∷◌, ◌++◌, length, take, get_or, inl, inr, refl, set, sym, ap, subst, ◌∙◌, arith}
use Rattle.std.specs.List.{All}
use Rattle.std.proofs.lemmas.List.{get_or-set_other, get_or-set_same, length-set, take_more}
use Rattle.std.proofs.lemmas.Nat.{mod_below}
use Rattle.std.proofs.lemmas.Bool.{cases_eq}
use Rattle.std.proofs.lemmas.List.Elements.{All-push, All-weaker}
use Rattle.std.proofs.lemmas.List.Folds.{list_any_none}
use Rattle.std.specs.Ordering.{is_eq}
use Rattle.std.specs.declared.cmp.Ordering.{Ordering}
use Rattle.std.specs.declared.cmp.Ordering.TheVariants.{Less, Equal, Greater}
use Rattle.otp_model.specs.Names.{number_of, run_name_cmp}
use Rattle.otp_model.specs.Resolution.{is_same_name}
use Rattle.otp_model.specs.declared.change.Change.{Change}
use Rattle.otp_model.specs.declared.run_name.RunName.{RunName}
use Rattle.otp_model.proofs.NameLemmas.{same_name}
use Rattle.snapshot_store.specs.Changing.{has_change}
use Rattle.snapshot_store.specs.Marks.{AreMarked, IsMarked, mark_of}

equal_from : (o : Ordering) → is_eq o ≡ true → o ≡ Equal
equal_from Less h = absurd (cc (h))
equal_from Equal h = refl
equal_from Greater h = absurd (cc (h))

-- no change has a name without a mark
pub unmarked : (changes : List Change) (marks : List Bool) (name : RunName) → AreMarked changes marks → get_or marks (mark_of name) false ≡ false → has_change changes name ≡ false
unmarked changes marks name are bare =
    list_any_none (λ (change : Change). is_same_name change.name name) changes (λ k d less. other (get_or changes k d) (are.set k d less))
  where
    other : (change : Change) → IsMarked marks change → is_same_name change.name name ≡ false
    other change is = from (is_same_name change.name name) refl
      where
        from : (b : Bool) → is_same_name change.name name ≡ b → is_same_name change.name name ≡ false
        from false e = e
        from true e =
            let same : change.name ≡ name = same_name change.name name (equal_from (run_name_cmp change.name name) e) in
            absurd (let never : true ≡ false = sym is ∙ ap (λ (n : RunName). get_or marks (mark_of n) false) same ∙ bare in cc)

-- a mark that is set leaves those that were set
still : (marks : List Bool) (place at : ℕ) → place < length marks → get_or marks at false ≡ true → get_or (set marks place true) at false ≡ true
still marks place at less is =
    elim (cases_eq at place) [
      | inl same ↦ ap (λ (k : ℕ). get_or (set marks place true) k false) same ∙ get_or-set_same marks place true false less
      | inr other ↦ get_or-set_other marks place at true false other ∙ is
    ]

-- the mark of one change more
pub marked_more : (changes : List Change) (marks : List Bool) (n : ℕ) (change : Change) → n < length changes → change ≡ get_or changes n change
    → AreMarked (take n changes) marks → AreMarked (take (n + 1) changes) (set marks (mark_of change.name) true)
marked_more changes marks n change less read are =
    let place : ℕ = mark_of change.name in
    let within : place < length marks = subst (λ (count : ℕ). place < count) (sym are.count) (mod_below (number_of change.name.trip) 65536 (omega arith)) in
    record {
      count = length-set marks place true ∙ are.count;
      set =
          subst (All (IsMarked (set marks place true))) (sym (take_more changes n change less ∙ ap (λ (c : Change). take n changes ++ c ∷ []) (sym read)))
          (All-push (IsMarked (set marks place true)) (take n changes) change
          (All-weaker (IsMarked marks) (IsMarked (set marks place true)) (λ other is. still marks place (mark_of other.name) within is) (take n changes) are.set)
          (get_or-set_same marks place true false within));
    }
