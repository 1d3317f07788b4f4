-- Rows by rising sequence.
use Rattle.std.proofs.Common.{◌≡◌, ◌≢◌, ℕ, ◌<◌, ◌==◌, Bool, false, List, length, get_or, ap, subst, inl, inr, arith}
use Rattle.std.specs.List.{All, AllPairs, Contains}
use Rattle.std.specs.List.Sorted.{IsPermutation, IsSortedByKey}
use Rattle.std.specs.Cmp.{nat_cmp_is}
use Rattle.std.specs.Ordering.{is_lt, nat_cmp}
use Rattle.std.specs.declared.cmp.Ordering.TheVariants.{Less}
use Rattle.std.proofs.lemmas.Bool.{cases_eq, cases_lt, eqb-false, ne_eqb}
use Rattle.std.proofs.lemmas.Cmp.{nat_cmp_total}
use Rattle.std.proofs.lemmas.List.Elements.{Contains-get_or}
use Rattle.std.proofs.lemmas.List.MinMax.{ranks_by}
use Rattle.std.proofs.lemmas.List.Sorted.{Contains-permutation, IsPermutation-sym, sorted_far}
use Rattle.std.proofs.lemmas.Map.Keys.{IsDistinct-IsPermutation}
use Rattle.otp_model.specs.declared.links.TimeRow.{TimeRow}
use Rattle.feed_load.specs.Anchors.{AreRows, HasClocks}
use Rattle.feed_load.proofs.RisingLemmas.{distinct_from_pairs, pairs_from_distinct}
use Rattle.feed_load.specs.Calls.{IsInOrder}

abbrev pub same_seq : TimeRow → TimeRow → Bool
same_seq a b = a.seq == b.seq

flips : (a b : ℕ) → (a == b) ≡ (b == a)
flips a b = grind arith

-- rows that are sorted by their sequences, of which no two are equal, rise
pub in_order_from_sorted : (rows ordered : List TimeRow) → AllPairs (λ (a : TimeRow) (b : TimeRow). a.seq ≢ b.seq) rows → IsPermutation rows ordered
    → IsSortedByKey (λ (row : TimeRow). row.seq) nat_cmp ordered → IsInOrder rows ordered
in_order_from_sorted rows ordered distinct permuted sorted = record {
  rises = λ i j d less within.
      let far = sorted_far (λ (a : TimeRow) (b : TimeRow). is_lt (nat_cmp a.seq b.seq)) (ranks_by nat_cmp_total (λ (a : TimeRow). a.seq)) ordered sorted i j d (omega (arith, less)) within in
      let differ = eqb-false (get_or ordered i d).seq (get_or ordered j d).seq (apart i j d less within) in
      rising (get_or ordered i d).seq (get_or ordered j d).seq far differ;
  kept = λ row h. Contains-permutation rows ordered row permuted h;
  only = λ row h. Contains-permutation ordered rows row (IsPermutation-sym rows ordered permuted) h;
}
  where
    apart : AllPairs (λ (a : TimeRow) (b : TimeRow). same_seq a b ≡ false) ordered
    apart = pairs_from_distinct same_seq ordered (IsDistinct-IsPermutation same_seq (λ a b. flips a.seq b.seq) rows ordered permuted
        (distinct_from_pairs same_seq rows (λ i j d less within. ne_eqb (get_or rows i d).seq (get_or rows j d).seq (distinct i j d less within))))

    rising : (a b : ℕ) → is_lt (nat_cmp b a) ≡ false → (a ≡ b → ⊥) → a < b
    rising a b h differ = elim (cases_lt a b) [
      | inl less ↦ less
      | inr more ↦
          let below : b < a = elim (cases_eq a b) [ inl same ↦ absurd (differ same) | inr other ↦ omega (arith, more, other) ] in
          let is : Less ≡ nat_cmp b a = nat_cmp_is b a Less below in
          absurd (cc (h, ap is_lt is))
    ]

-- what holds of each holds of each in order
pub in_order_all : (P : TimeRow → Type 0) (rows ordered : List TimeRow) → IsInOrder rows ordered → All P rows → All P ordered
in_order_all P rows ordered is all = λ k d less.
    let x : TimeRow = get_or ordered k d in
    let from : Contains rows x = is.only x (Contains-get_or ordered k d less) in
    subst P from.2 (all from.0 x from.1)

-- where there are some, there are some in order
pub in_order_some : (rows ordered : List TimeRow) (d : TimeRow) → IsInOrder rows ordered → 0 < length rows → 0 < length ordered
in_order_some rows ordered d is some =
    let there : Contains ordered (get_or rows 0 d) = is.kept (get_or rows 0 d) (Contains-get_or rows 0 d some) in
    omega (arith, there.1)

pub in_order_rows : (rows ordered : List TimeRow) → length ordered ≡ length rows → IsInOrder rows ordered → AreRows rows → AreRows ordered
in_order_rows rows ordered same is are = record {
  few = omega (arith, same, are.few);
  clocks = in_order_all HasClocks rows ordered is are.clocks;
}
