-- The run of a name among runs that rise by their names.
use Rattle.std.proofs.Common.{◌≡◌, ℕ, ◌+◌, ◌<◌, ◌≤◌, suc, zero, List, [], ◌∷◌, length, get_or, Bool, true, false, cond, None, Some, inl, inr, refl, sym, ap, subst, ◌∙◌, arith}
use Rattle.std.specs.List.{All, AllPairs, AllWithin, find}
use Rattle.std.specs.Prelude.{IfSome}
use Rattle.std.specs.Ordering.{is_eq, ordering_reverse}
use Rattle.std.specs.declared.cmp.Ordering.TheVariants.{Less, Equal, Greater}
use Rattle.std.proofs.lemmas.Bool.{cases_lt}
use Rattle.std.proofs.lemmas.List.{get_or_default}
use Rattle.std.proofs.lemmas.List.Elements.{All-head, All-tail}
use Rattle.otp_model.specs.Names.{run_name_cmp}
use Rattle.otp_model.specs.Resolution.{is_same_name}
use Rattle.otp_model.specs.Sound.{IsRunBelow}
use Rattle.otp_model.specs.declared.run_name.RunName.{RunName}
use Rattle.otp_model.specs.declared.timetable.Run.{Run}
use Rattle.otp_model.proofs.NameLemmas.{run_name_cmp_total, same_name}

module _ {X : Type 0} (p : X → Bool) where
  -- the first that passes
  pub found_at : (xs : List X) (i : ℕ) (x : X) → i < length xs → x ≡ get_or xs i x → p x ≡ true
      → ((j : ℕ) → j < i → p (get_or xs j x) ≡ false) → find p xs ≡ Some x
  found_at [] i x less is holds others = absurd (omega arith)
  found_at (first ∷ xs) zero x less is holds others = let passes : p first ≡ true = subst (λ (y : X). p y ≡ true) is holds in rw passes (ap (λ (y : X). Some y) (sym is))
  found_at (first ∷ xs) (suc i) x less is holds others = rw (others zero (omega arith)) (found_at xs i x (omega arith) is holds (λ j l. others (suc j) (omega arith)))

  pub found_none : (xs : List X) → ((j : ℕ) (d : X) → j < length xs → p (get_or xs j d) ≡ false) → find p xs ≡ None
  found_none [] others = refl
  found_none (first ∷ xs) others = rw (others zero first (omega arith)) (found_none xs (λ j d l. others (suc j) d (omega arith)))

module _ {X : Type 0} (p : X → Bool) (P : X → Type 0) where
  -- what holds of all holds of the one that is found
  pub all_find : (xs : List X) → All P xs → IfSome (find p xs) P
  all_find [] all = tt
  all_find (x ∷ xs) all = by (p x) (all_find xs (All-tail P x xs all))
    where
      by : (b : Bool) → IfSome (find p xs) P → IfSome (cond b (Some x) (find p xs)) P
      by true rest = All-head P x xs all
      by false rest = rest

module _ (runs : List Run) (name : RunName) (rise : AllPairs IsRunBelow runs) (place : ℕ) (run : Run) (less : place < length runs) (is : run ≡ get_or runs place run) where
  -- runs up to one below the name are below it
  pub below_name : run_name_cmp run.name name ≡ Less → AllWithin (λ (other : Run). run_name_cmp other.name name ≡ Less) runs 0 (place + 1)
  below_name under k d low high = elim (cases_lt k place) [ inl before ↦ trans k d before | inr from ↦ here k d (omega arith) ]
    where
      at : (d : Run) → run_name_cmp (get_or runs place d).name name ≡ Less
      at d = subst (λ (r : Run). run_name_cmp r.name name ≡ Less) (is ∙ get_or_default runs place run d less) under

      here : (k : ℕ) (d : Run) → k ≡ place → run_name_cmp (get_or runs k d).name name ≡ Less
      here k d e = rw e (at d)

      trans : (k : ℕ) (d : Run) → k < place → run_name_cmp (get_or runs k d).name name ≡ Less
      trans k d before = run_name_cmp_total.trans (get_or runs k d).name (get_or runs place d).name name (rise k place d before less) (at d)

  -- and those from one above it on are above it
  pub above_name : run_name_cmp run.name name ≡ Greater → AllWithin (λ (other : Run). run_name_cmp other.name name ≡ Greater) runs place (length runs)
  above_name over k d low high = elim (cases_lt place k) [ inl behind ↦ trans k d behind high | inr from ↦ here k d (omega arith) ]
    where
      at : (d : Run) → run_name_cmp (get_or runs place d).name name ≡ Greater
      at d = subst (λ (r : Run). run_name_cmp r.name name ≡ Greater) (is ∙ get_or_default runs place run d less) over

      here : (k : ℕ) (d : Run) → k ≡ place → run_name_cmp (get_or runs k d).name name ≡ Greater
      here k d e = rw e (at d)

      trans : (k : ℕ) (d : Run) → place < k → k < length runs → run_name_cmp (get_or runs k d).name name ≡ Greater
      trans k d behind high =
          let under : run_name_cmp name (get_or runs place d).name ≡ Less = run_name_cmp_total.antisymm name (get_or runs place d).name ∙ ap ordering_reverse (at d) in
          let all : run_name_cmp name (get_or runs k d).name ≡ Less = run_name_cmp_total.trans name (get_or runs place d).name (get_or runs k d).name under (rise place k d behind high) in
          run_name_cmp_total.antisymm (get_or runs k d).name name ∙ ap ordering_reverse all

-- the run of the name, where a search found one
pub named_at : (runs : List Run) (name : RunName) (i : ℕ) (run : Run) → AllPairs IsRunBelow runs → i < length runs → run ≡ get_or runs i run
    → run_name_cmp run.name name ≡ Equal → find (λ (run : Run). is_same_name run.name name) runs ≡ Some run
named_at runs name i run rise less is same = found_at (λ (run : Run). is_same_name run.name name) runs i run less is (ap is_eq same) earlier
  where
    earlier : (j : ℕ) → j < i → is_same_name (get_or runs j run).name name ≡ false
    earlier j l =
        let below : run_name_cmp (get_or runs j run).name (get_or runs i run).name ≡ Less = rise j i run l less in
        let named : (get_or runs i run).name ≡ name = ap (λ (r : Run). r.name) (sym is) ∙ same_name run.name name same in
        let under : run_name_cmp (get_or runs j run).name name ≡ Less = subst (λ (n : RunName). run_name_cmp (get_or runs j run).name n ≡ Less) named below in
        ap is_eq under

-- none has it, where those before a place are below it and those from there on above it
pub named_none : (runs : List Run) (name : RunName) (low high : ℕ) → high ≤ low
    → AllWithin (λ (run : Run). run_name_cmp run.name name ≡ Less) runs 0 low → AllWithin (λ (run : Run). run_name_cmp run.name name ≡ Greater) runs high (length runs)
    → find (λ (run : Run). is_same_name run.name name) runs ≡ None
named_none runs name low high met less greater = found_none (λ (run : Run). is_same_name run.name name) runs other
  where
    other : (j : ℕ) (d : Run) → j < length runs → is_same_name (get_or runs j d).name name ≡ false
    other j d l = elim (cases_lt j low) [ inl below ↦ ap is_eq (less j d (omega arith) below) | inr above ↦ ap is_eq (greater j d (omega arith) l) ]
