-- The blocks that changes touch.
use Rattle.std.proofs.Common.{◌≡◌, ℕ, zero, suc, ◌+◌, ◌<◌, Bool, true, false, ◌||◌, List, [], ◌∷◌, ◌++◌, length, take, get_or, Some, refl, sym, ap, ◌∙◌, arith}
use Rattle.std.specs.List.{list_any, slice_get}
use Rattle.std.proofs.lemmas.List.{append-nil, take_more}
use Rattle.std.proofs.lemmas.List.Concat.{flat_map-append}
use Rattle.std.proofs.lemmas.List.Folds.{list_any-append, list_any_at, list_any_more}
use Rattle.std.proofs.lemmas.Option.{get_or_from_slice_get, slice_get_within}
use Rattle.otp_model.specs.declared.timetable.Run.{Run}
use Rattle.trip_patterns.specs.FirstFit.{rows_of}
use Rattle.trip_patterns.specs.Lanes.{LaneOf}

-- one run more that doesn't pass
pub none_more : (p : Run → Bool) (runs : List Run) (n : ℕ) (run : Run) → slice_get runs n ≡ Some run → list_any p (take n runs) ≡ false → p run ≡ false → list_any p (take (n + 1) runs) ≡ false
none_more p runs n run at before here =
    list_any_more p runs n run (slice_get_within runs n run at)
    ∙ (λ i. before i || p (get_or_from_slice_get runs n run run at i)) ∙ here

pub some_at : (p : Run → Bool) (runs : List Run) (n : ℕ) (run : Run) → slice_get runs n ≡ Some run → p run ≡ true → list_any p runs ≡ true
some_at p runs n run at here = list_any_at p runs n run (slice_get_within runs n run at) (ap p (get_or_from_slice_get runs n run run at) ∙ here)

or_true : (b : Bool) → (b || true) ≡ true
or_true true = refl
or_true false = refl

-- a row of one lane is a row of the block
pub some_in : (p : Run → Bool) (lanes : List LaneOf) (n : ℕ) (lane : LaneOf) → n < length lanes → lane ≡ get_or lanes n lane → list_any p lane.runs ≡ true → list_any p (rows_of lanes) ≡ true
some_in p [] n lane less read here = absurd (omega arith)
some_in p (first ∷ lanes) zero lane less read here =
    list_any-append p first.runs (rows_of lanes) ∙ ap (λ b. b || list_any p (rows_of lanes)) (ap (λ (l : LaneOf). list_any p l.runs) (sym read) ∙ here)
some_in p (first ∷ lanes) (suc n) lane less read here =
    list_any-append p first.runs (rows_of lanes) ∙ ap (λ b. list_any p first.runs || b) (some_in p lanes n lane (omega arith) read here) ∙ or_true (list_any p first.runs)

pub none_in : (p : Run → Bool) (lanes : List LaneOf) (n : ℕ) (lane : LaneOf) → n < length lanes → lane ≡ get_or lanes n lane → list_any p (rows_of (take n lanes)) ≡ false
    → list_any p lane.runs ≡ false → list_any p (rows_of (take (n + 1) lanes)) ≡ false
none_in p lanes n lane less read before here =
    let parts : rows_of (take (n + 1) lanes) ≡ rows_of (take n lanes) ++ lane.runs
    = ap rows_of (take_more lanes n lane less) ∙ flat_map-append (λ (l : LaneOf). l.runs) (take n lanes) (get_or lanes n lane ∷ [])
    ∙ ap (λ (xs : List Run). rows_of (take n lanes) ++ xs) (append-nil (get_or lanes n lane).runs ∙ ap (λ (l : LaneOf). l.runs) (sym read)) in
    ap (list_any p) parts ∙ list_any-append p (rows_of (take n lanes)) lane.runs ∙ (λ i. before i || here i)
