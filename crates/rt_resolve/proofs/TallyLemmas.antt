-- What one more answer makes of a tally.
use Rattle.std.proofs.Common.{◌≡◌, ℕ, ◌+◌, ◌<◌, suc, zero, List, [], ◌∷◌, ◌++◌, length, get_or, set, map, Bool, true, false, cond, ◌||◌, Option, Some, Result, Ok, Err, refl, sym, ap, subst, ◌∙◌, arith}
use Rattle.std.specs.Prelude.{is_some}
use Rattle.std.specs.BTreeMap.{BTreeMap, get, insert_entry, is_at, Updates}
use Rattle.std.specs.List.{All, AllPairs, flat_map}
use Rattle.std.specs.List.Sorted.{IsPermutation, IsStrictlySortedBy}
use Rattle.std.specs.Map.{keys_of, lookup}
use Rattle.std.specs.Ordering.{is_eq, match_ordering, ordering_reverse}
use Rattle.std.specs.declared.cmp.Ordering.{Ordering}
use Rattle.std.specs.declared.cmp.Ordering.TheVariants.{Less, Equal, Greater}
use Rattle.std.proofs.lemmas.Grind.{flat_map-append}
use Rattle.std.proofs.lemmas.List.{append-nil}
use Rattle.std.proofs.lemmas.List.Elements.{All-head, All-tail}
use Rattle.std.proofs.lemmas.List.Sorted.{IsPermutation-cons, IsPermutation-map, IsPermutation-middle, IsPermutation-refl, IsPermutation-to_front, IsPermutation-trans}
use Rattle.std.proofs.lemmas.Map.Keys.{sorted_tail}
use Rattle.std.proofs.lemmas.Map.Views.{All-after_first}
use Rattle.otp_model.specs.Names.{IsNameBelow, run_name_cmp}
use Rattle.otp_model.specs.Resolution.{change_in, has_run_name, is_same_name, judged_after, names_after}
use Rattle.otp_model.specs.declared.change.Change.{Change}
use Rattle.otp_model.specs.declared.run_name.RunName.{RunName}
use Rattle.otp_model.specs.declared.timetable.Call.{Call}
use Rattle.otp_model.proofs.NameLemmas.{run_name_cmp_total}
use Rattle.rt_resolve.specs.Tallies.{change_kept, key_cmp, key_of, names_in, Tallies}
use Rattle.rt_resolve.specs.declared.name_key.NameKey.{NameKey}
use Rattle.rt_resolve.specs.declared.tally.Tally.{Tally}
use Rattle.rt_resolve.proofs.CountLemmas.{counts_change, counts_reason}

-- the names once one more answer came
pub names_last : (names : List RunName) (answers : List (Result Change ℕ)) (answer : Result Change ℕ)
    → names_in names (answers ++ answer ∷ []) ≡ names_after (names_in names answers) answer
names_last names [] answer = refl
names_last names (first ∷ answers) answer = names_last (names_after names first) answers answer

changes_last : (answers : List (Result Change ℕ)) (answer : Result Change ℕ)
    → flat_map change_in (answers ++ answer ∷ []) ≡ flat_map change_in answers ++ flat_map change_in (answer ∷ [])
changes_last answers answer = flat_map-append change_in answers (answer ∷ [])

-- an entity that is ignored
pub one_ignored : (answers : List (Result Change ℕ)) (tally : Tally) (reason place : ℕ) → place + 1 ≡ reason → place < 9 → Tallies answers tally
    → Tallies (answers ++ Err reason ∷ []) (record { changes = tally.changes; ignored = set tally.ignored place (get_or tally.ignored place 0 + 1) })
one_ignored answers tally reason place number less so_far = record {
  changes =
      subst (λ (changes : List Change). IsPermutation changes (map change_kept tally.changes.entries))
      (sym (changes_last answers (Err reason) ∙ append-nil (flat_map change_in answers))) so_far.changes;
  names = λ name. ap (λ (names : List RunName). has_run_name names name) (names_last [] answers (Err reason)) ∙ so_far.names name;
  reasons =
      ap (λ (ignored : List ℕ). set ignored place (get_or ignored place 0 + 1)) so_far.reasons
      ∙ counts_reason answers reason place number less;
}

-- an entry under a new key is one more entry
one_more : (entries : List (NameKey × Option (List Call))) (key : NameKey) (calls : Option (List Call))
    → is_some (lookup (is_at (key_cmp key)) entries) ≡ false → IsPermutation ((key, calls) ∷ entries) (insert_entry key_cmp entries key calls)
one_more [] key calls new = IsPermutation-refl ((key, calls) ∷ [])
one_more (entry ∷ entries) key calls new = by (key_cmp key entry.0) new (one_more entries key calls)
  where
    by : (o : Ordering) → is_some (cond (is_eq o) (Some entry.1) (lookup (is_at (key_cmp key)) entries)) ≡ false
        → (is_some (lookup (is_at (key_cmp key)) entries) ≡ false → IsPermutation ((key, calls) ∷ entries) (insert_entry key_cmp entries key calls))
        → IsPermutation ((key, calls) ∷ entry ∷ entries)
        (match_ordering o ((key, calls) ∷ entry ∷ entries) ((entry.0, calls) ∷ entries) (entry ∷ insert_entry key_cmp entries key calls))
    by Less e more = IsPermutation-refl ((key, calls) ∷ entry ∷ entries)
    by Equal e more = absurd (cc e)
    by Greater e more =
        IsPermutation-trans _ _ _ (IsPermutation-middle ((key, calls) ∷ []) entry entries)
        (IsPermutation-cons entry ((key, calls) ∷ entries) (insert_entry key_cmp entries key calls) (more e))

reversed : (o : Ordering) → is_eq (ordering_reverse o) ≡ is_eq o
reversed Less = refl
reversed Equal = refl
reversed Greater = refl

same_either_way : (a b : RunName) → is_same_name a b ≡ is_same_name b a
same_either_way a b = ap is_eq (run_name_cmp_total.antisymm a b) ∙ reversed (run_name_cmp b a)

-- an entity that resolved for a new name
pub one_kept : (answers : List (Result Change ℕ)) (tally : Tally) (change : Change) (after : BTreeMap NameKey (Option (List Call)))
    → is_some (get key_cmp tally.changes (key_of change.name)) ≡ false
    → after.entries ≡ insert_entry key_cmp tally.changes.entries (key_of change.name) change.calls
    → Updates key_cmp tally.changes after (key_of change.name) (Some change.calls) → Tallies answers tally
    → Tallies (answers ++ judged_after (names_in [] answers) (Ok change) ∷ []) (record { changes = after; ignored = tally.ignored })
one_kept answers tally change after new entries updates so_far = rw fresh (record {
  changes = kept;
  names = λ name. ap (λ (names : List RunName). has_run_name names name) (names_last [] answers (Ok change)) ∙ known name;
  reasons = so_far.reasons ∙ counts_change answers change;
})
  where
    fresh : has_run_name (names_in [] answers) change.name ≡ false
    fresh = so_far.names change.name ∙ new

    before : List (NameKey × Option (List Call))
    before = tally.changes.entries

    kept : IsPermutation (flat_map change_in (answers ++ Ok change ∷ [])) (map change_kept after.entries)
    kept =
        let earlier = flat_map change_in answers in
        let front = IsPermutation-to_front earlier change in
        let more = IsPermutation-cons change earlier (map change_kept tally.changes.entries) so_far.changes in
        let put = IsPermutation-map change_kept ((key_of change.name, change.calls) ∷ tally.changes.entries)
        (insert_entry key_cmp tally.changes.entries (key_of change.name) change.calls) (one_more tally.changes.entries (key_of change.name) change.calls new) in
        let all = IsPermutation-trans _ _ _ front (IsPermutation-trans _ _ _ more put) in
        subst (λ (changes : List Change). IsPermutation changes (map change_kept after.entries)) (sym (changes_last answers (Ok change)))
        (subst (λ (es : List (NameKey × Option (List Call))). IsPermutation (earlier ++ change ∷ []) (map change_kept es)) (sym entries) all)

    known : (name : RunName) → has_run_name (change.name ∷ names_in [] answers) name ≡ is_some (get key_cmp after (key_of name))
    known name = rw (updates.0 (key_of name), same_either_way name change.name) (by (is_same_name change.name name))
      where
        by : (b : Bool) → (b || has_run_name (names_in [] answers) name) ≡ is_some (cond b (Some change.calls) (get key_cmp tally.changes (key_of name)))
        by true = refl
        by false = so_far.names name

-- a change below each of those that are kept under greater keys
below_kept : (key : NameKey) (entries : List (NameKey × Option (List Call))) → All (λ (other : NameKey). key_cmp key other ≡ Less) (keys_of entries)
    → (k : ℕ) (any : Change) → k < length (map change_kept entries) → IsNameBelow key.0 (get_or (map change_kept entries) k any).name
below_kept key [] all k any less = absurd (omega arith)
below_kept key (entry ∷ entries) all zero any less = All-head (λ (other : NameKey). key_cmp key other ≡ Less) entry.0 (keys_of entries) all
below_kept key (entry ∷ entries) all (suc k) any less =
    below_kept key entries (All-tail (λ (other : NameKey). key_cmp key other ≡ Less) entry.0 (keys_of entries) all) k any (omega arith)

-- changes that are kept under rising keys rise by their names
pub kept_rise : (entries : List (NameKey × Option (List Call))) → IsStrictlySortedBy key_cmp (keys_of entries)
    → AllPairs (λ (a b : Change). IsNameBelow a.name b.name) (map change_kept entries)
kept_rise [] sorted i j any less within = absurd (omega arith)
kept_rise (entry ∷ entries) sorted zero zero any less within = absurd (omega arith)
kept_rise (entry ∷ entries) sorted zero (suc j) any less within =
    below_kept entry.0 entries (All-after_first key_cmp entry.0 (keys_of entries) sorted) j any (omega arith)
kept_rise (entry ∷ entries) sorted (suc i) zero any less within = absurd (omega arith)
kept_rise (entry ∷ entries) sorted (suc i) (suc j) any less within =
    kept_rise entries (sorted_tail key_cmp entry.0 (keys_of entries) sorted) i j any (omega arith) (omega arith)
