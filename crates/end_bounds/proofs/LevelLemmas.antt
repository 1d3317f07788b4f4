-- All shapes, one after the other.
use Rattle.std.proofs.Common.{◌≡◌, inl, inr, ℕ, ◌+◌, ◌≤◌, ◌<◌, List, Some, length, refl, sym, subst, ◌∙◌, arith, slice_index}
use Rattle.std.specs.List.{slice_get}
use Rattle.std.proofs.lemmas.Bool.{cases_lt}
use Rattle.std.proofs.lemmas.Option.{same_Some, slice_get_within}
use Rattle.trip_patterns.specs.Shapes.{ShapeOf}
use Rattle.end_bounds.specs.Scans.{IsKeptOutside, IsLowered, IsScannedFrom, number_at}
use Rattle.end_bounds.specs.Levels.{AreLaid, AreRenewed, AreScanned}

-- a shape's bounds hold on where its places were kept and no more is left than before
pub still_scanned : (now : List ℕ) (shape : ShapeOf) (base : ℕ) (ready new_ready place new_place : List ℕ) → IsLowered ready new_ready
    → ((k : ℕ) → base ≤ k → k < base + length shape.pattern → number_at new_place k ≡ number_at place k) → IsScannedFrom now shape base 0 ready place → IsScannedFrom now shape base 0 new_ready new_place
still_scanned now shape base ready new_ready place new_place low kept s = record {
  onward = λ p a b. rw (kept (base + p) (omega arith) (omega arith)) (s.onward p a b);
  boards = λ p z a at may.
      let inside = slice_get_within shape.pattern p z at in
      let x = s.boards p z a at may in
      let y = low z.stop in
      rw (kept (base + p) (omega arith) (omega arith)) (omega arith);
}

pub renewed_none : (now : List ℕ) (shapes : List ShapeOf) (bases ready place : List ℕ) → AreRenewed now shapes bases 0 ready ready place place
renewed_none now shapes bases ready place = record {
  size = refl;
  ready_size = refl;
  lowered = λ n. omega arith;
  scanned = record { each = λ n shape less at. absurd (omega arith) };
  ahead = λ n k upto inside low. refl;
}

module _ (now : List ℕ) (shapes : List ShapeOf) (bases : List ℕ) (places n : ℕ) (shape : ShapeOf) (laid : AreLaid shapes (length shapes) bases places) (shape_is : slice_get shapes n ≡ Some shape) where
  -- the next shape still has the bounds that it had
  pub still_here : (before old_ready ready old_place place : List ℕ) → AreScanned before shapes bases (length shapes) old_ready old_place → AreRenewed now shapes bases n old_ready ready old_place place
      → IsScannedFrom before shape (slice_index bases n) 0 ready place
  still_here before old_ready ready old_place place had s =
      let inside = slice_get_within shapes n shape shape_is in
      still_scanned before shape (slice_index bases n) old_ready ready old_place place s.lowered (λ k a b. s.ahead n k (omega arith) inside a) (had.each n shape inside shape_is)

  pub renewed_more : (old_ready ready new_ready old_place place new_place : List ℕ) → length new_place ≡ length place → length new_ready ≡ length ready → IsLowered ready new_ready
      → IsKeptOutside (slice_index bases n) (length shape.pattern) place new_place → IsScannedFrom now shape (slice_index bases n) 0 new_ready new_place
      → AreRenewed now shapes bases n old_ready ready old_place place → AreRenewed now shapes bases (n + 1) old_ready new_ready old_place new_place
  renewed_more old_ready ready new_ready old_place place new_place same_size same_ready low kept here s = record {
    size = same_size ∙ s.size;
    ready_size = same_ready ∙ s.ready_size;
    lowered = λ k. let a = s.lowered k in let b = low k in omega arith;
    scanned = record {
      each = λ m y less at. elim (cases_lt m n) [
        | inl before ↦
            (let apart = laid.rising m n y before (slice_get_within shapes n shape shape_is) at in
            let old = s.scanned in
            still_scanned now y (slice_index bases m) ready new_ready place new_place low (λ k a b. kept k (inl (omega arith))) (old.each m y before at))
        | inr not_before ↦ last m y (omega arith) at
      ];
    };
    ahead = λ m k upto inside low.
        let apart = laid.rising n m shape (omega arith) inside shape_is in
        kept k (inr (omega arith)) ∙ s.ahead m k (omega arith) inside low;
  }
    where
      last : (m : ℕ) (y : ShapeOf) → m ≡ n → slice_get shapes m ≡ Some y → IsScannedFrom now y (slice_index bases m) 0 new_ready new_place
      last m y same at = rw same (subst (λ (z : ShapeOf). IsScannedFrom now z (slice_index bases n) 0 new_ready new_place) (same_Some shape y (sym shape_is ∙ rw same at at)) here)
