-- What a binary search finds.
use Rattle.std.proofs.Common.{◌≡◌, ℕ, ◌+◌, List, [], ◌∷◌, length, get_or, map, Result, Ok, Err, inl, inr, sym, ap, ◌∙◌, arith}
use Rattle.std.specs.Cmp.{IsTotalOrder}
use Rattle.std.specs.List.{AllPairs, list_any}
use Rattle.std.specs.List.Sorted.{IsBinarySearchResult, IsSearchInRange, IsSortedBy}
use Rattle.std.specs.Ordering.{is_eq, is_lt, ordering_reverse}
use Rattle.std.specs.Result.{is_ok}
use Rattle.std.specs.declared.cmp.Ordering.{Ordering}
use Rattle.std.proofs.lemmas.Bool.{cases_lt}
use Rattle.std.proofs.lemmas.Cmp.{int_cmp_total, nat_list_cmp_total, on_total, then_total}
use Rattle.std.proofs.lemmas.List.Folds.{list_any_at, list_any_none}
use Rattle.std.proofs.lemmas.List.Sorted.{searchable_from_sorted}
use Rattle.otp_model.specs.Names.{run_name_cmp}
use Rattle.otp_model.specs.declared.change.Change.{Change}
use Rattle.otp_model.specs.declared.run_name.RunName.{RunName}
use Rattle.otp_model.proofs.NameLemmas.{run_name_cmp_total}
use Rattle.trip_patterns.specs.Lanes.{LaneOf}
use Rattle.snapshot_store.specs.Changing.{IsChangeBelow, has_change}
use Rattle.snapshot_store.specs.Order.{lane_cmp, spot_number}

module _ {K X : Type 0} {R : K → K → Ordering} (o : IsTotalOrder R) (key : X → K) where
  -- a binary search tells whether some item has the key
  found_by : (xs : List X) (x : K) (found : Result ℕ ℕ) → IsSortedBy (λ (a b : X). is_lt (R (key a) (key b))) xs → IsSearchInRange found (length xs)
      → IsBinarySearchResult (λ (y : X). R (key y) x) xs found → is_ok found ≡ list_any (λ (y : X). is_eq (R (key y) x)) xs
  found_by [] x (Ok i) sorted within here = absurd (omega arith)
  found_by (y ∷ ys) x (Ok i) sorted within here = sym (list_any_at (λ (z : X). is_eq (R (key z) x)) (y ∷ ys) i y within (ap is_eq (here y)))
  found_by xs x (Err i) sorted within apart =
      let parts = apart (searchable_from_sorted o key xs x sorted) in
      sym (list_any_none (λ (z : X). is_eq (R (key z) x)) xs (λ k d less.
      elim (cases_lt k i) [ inl under ↦ ap is_eq (parts.0 k d (omega arith) under) | inr over ↦ ap is_eq (parts.1 k d over less) ]))

abbrev pub beside : RunName → Change → Ordering
beside name change = run_name_cmp change.name name

sorted_changes : (changes : List Change) → AllPairs IsChangeBelow changes → IsSortedBy (λ (a b : Change). is_lt (run_name_cmp a.name b.name)) changes
sorted_changes changes rise = λ k d low high.
    let below = rise k (k + 1) d (omega arith) high in
    ap is_lt (run_name_cmp_total.antisymm (get_or changes (k + 1) d).name (get_or changes k d).name ∙ ap ordering_reverse below)

-- the change of a name, among changes that rise by their names
pub change_found : (changes : List Change) (name : RunName) (found : Result ℕ ℕ) → AllPairs IsChangeBelow changes → IsSearchInRange found (length changes)
    → IsBinarySearchResult (beside name) changes found → is_ok found ≡ has_change changes name
change_found changes name found rise within is = found_by run_name_cmp_total (λ (change : Change). change.name) changes name found (sorted_changes changes rise) within is

pub lane_cmp_total : IsTotalOrder lane_cmp
lane_cmp_total = then_total (on_total (λ (lane : LaneOf). lane.day) int_cmp_total) (on_total (λ (lane : LaneOf). map spot_number lane.pattern) nat_list_cmp_total)
