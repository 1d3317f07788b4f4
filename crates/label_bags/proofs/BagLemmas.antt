-- What is in a bag after a label came in.
use Rattle.std.proofs.Common.{◌≡◌, ◌⊎◌, inl, inr, ◌≤ℤ◌, ℤ, List, [], ◌∷◌, ◌++◌, Bool, true, false, not, get_or, Result, Ok, Err, IfOk, OnOk, OnErr, refl, sym, subst, arith}
use Rattle.std.specs.List.{All, Contains, filter}
use Rattle.std.proofs.lemmas.Int.{ints}
use Rattle.std.proofs.lemmas.List.{get_or_default}
use Rattle.std.proofs.lemmas.List.Elements.{All-contains, All-contains_itself, All-filter, Contains-append_cases, Contains-append_left, Contains-push, Contains-push_cases, filter_passes}
use Rattle.std.proofs.lemmas.List.Kept.{AllPairs-filter}
use Rattle.std.proofs.lemmas.List.Quantifiers.{all_pairs_push}
use Rattle.std.proofs.lemmas.List.Sorted.{Contains-permutation, IsPermutation-filter_both}
use Rattle.otp_base.specs.declared.memory.Memory.{Memory}
use Rattle.label_bags.specs.declared.label.Label.{Label}
use Rattle.label_bags.specs.Bags.{AreApart, Covers, IsApart, IsCovered, IsInserted, IsUpheld, stays_beside}

-- a label that stays is not covered
stays_uncovered : (label other : Label) → stays_beside label other ≡ true → Covers label other.time other.penalty → ⊥
stays_uncovered label other stays covers = let early = covers.0 in let cheap = covers.1 in absurd (grind arith)

-- one that goes is
gone_covered : (label other : Label) → not (stays_beside label other) ≡ true → Covers label other.time other.penalty
gone_covered label other gone = (grind arith, grind arith)

covers_itself : (label : Label) → Covers label label.time label.penalty
covers_itself label = (omega (arith, ints), omega (arith, ints))

covered_by : (labels : List Label) (x : Label) (time penalty : ℤ) → Contains labels x → Covers x time penalty → IsCovered labels time penalty
covered_by labels x time penalty on covers = (on.0, x, on.1, on.2, covers)

uncovered_all : (labels : List Label) (time penalty : ℤ) → (IsCovered labels time penalty → ⊥) → All (λ (x : Label). Covers x time penalty → ⊥) labels
uncovered_all labels time penalty fresh k d less covers =
    fresh (k, get_or labels k d, less, get_or_default labels k (get_or labels k d) d less, covers)

apart_with : (old : List Label) (label : Label) → AreApart old → (IsCovered old label.time label.penalty → ⊥) → AreApart (filter (stays_beside label) old ++ label ∷ [])
apart_with old label apart fresh =
    all_pairs_push IsApart (filter (stays_beside label) old) label (AllPairs-filter IsApart (stays_beside label) old apart) (λ k d less. record {
      front = All-filter (stays_beside label) (λ (x : Label). Covers x label.time label.penalty → ⊥) old (uncovered_all old label.time label.penalty fresh) k d less;
      back = stays_uncovered label (get_or (filter (stays_beside label) old) k d) (filter_passes (stays_beside label) old k d less);
    })

-- a label of before is there, or is covered
kept_or_covered : (old : List Label) (label x : Label) → Contains old x → Contains (filter (stays_beside label) old ++ label ∷ []) x ⊎ Covers label x.time x.penalty
kept_or_covered old label x on =
    let stay = stays_beside label in
    let go : Label → Bool = λ other. not (stays_beside label other) in
    let both = Contains-permutation old (filter stay old ++ filter go old) x (IsPermutation-filter_both stay go (λ other. refl) old) on in
    elim (Contains-append_cases (filter stay old) (filter go old) x both) [
      | inl stays ↦ inl (Contains-append_left (filter stay old) (label ∷ []) x stays)
      | inr goes ↦ inr (gone_covered label x (All-contains (λ (y : Label). go y ≡ true) (filter go old) x (filter_passes go old) goes))
    ]

later : (a b c d e f : ℤ) → a ≤ℤ b → b ≤ℤ c → d ≤ℤ e → e ≤ℤ f → (a ≤ℤ c) × (d ≤ℤ f)
later a b c d e f h1 h2 h3 h4 = (omega (arith, ints), omega (arith, ints))

upheld_with : (old : List Label) (label : Label) → IsUpheld old label (filter (stays_beside label) old ++ label ∷ [])
upheld_with old label =
    let new = filter (stays_beside label) old ++ label ∷ [] in
    let on = Contains-push (filter (stays_beside label) old) label in
    record {
      covered = covered_by new label label.time label.penalty on (covers_itself label);
      still = λ time penalty was.
          let x = was.1 in
          let covers = was.4 in
          elim (kept_or_covered old label x (was.0, was.2, was.3)) [
            | inl stays ↦ covered_by new x time penalty stays covers
            | inr under ↦ covered_by new label time penalty on (later _ _ _ _ _ _ under.0 covers.0 under.1 covers.1)
          ];
      kept = λ x was. kept_or_covered old label x was;
      only = λ x now. elim (Contains-push_cases (filter (stays_beside label) old) label x now) [
        | inl stays ↦ inl (All-contains (Contains old) (filter (stays_beside label) old) x (All-filter (stays_beside label) (Contains old) old (All-contains_itself old)) stays)
        | inr same ↦ inr (sym same)
      ];
    }

-- where the label is covered, the bag is as it was
upheld_as_is : (old : List Label) (label : Label) → IsCovered old label.time label.penalty → IsUpheld old label old
upheld_as_is old label covered = record { covered = covered; still = λ time penalty was. was; kept = λ x was. inl was; only = λ x now. inl now }

-- what an insertion leaves
pub apart_after : (old : List Label) (label : Label) (new : List Label) (r : Result Bool Memory) → AreApart old
    → IfOk r (λ came. IsInserted old label came new) → OnErr r (new ≡ old) → AreApart new
apart_after old label new (Ok true) apart is same = subst AreApart (sym is.new_is) (apart_with old label apart is.fresh)
apart_after old label new (Ok false) apart is same = subst AreApart (sym is.1) apart
apart_after old label new (Err e) apart is same = subst AreApart (sym same) apart

pub upheld_after : (old : List Label) (label : Label) (new : List Label) (r : Result Bool Memory)
    → IfOk r (λ came. IsInserted old label came new) → OnOk r (IsUpheld old label new)
upheld_after old label new (Ok true) is = subst (IsUpheld old label) (sym is.new_is) (upheld_with old label)
upheld_after old label new (Ok false) is = subst (IsUpheld old label) (sym is.1) (upheld_as_is old label is.0)
upheld_after old label new (Err e) is = tt
