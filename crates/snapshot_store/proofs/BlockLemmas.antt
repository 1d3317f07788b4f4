-- Runs that are put into blocks, group by group.
use Rattle.std.proofs.Common.{◌≡◌, ℕ, ◌+◌, ◌<◌, List, [], ◌∷◌, ◌++◌, length, refl, sym, ap, subst, ◌∙◌, arith}
use Rattle.std.specs.List.{All, flat_map, sum_by}
use Rattle.std.specs.List.Sorted.{IsPermutation}
use Rattle.std.proofs.lemmas.List.{append-nil, append_assoc}
use Rattle.std.proofs.lemmas.List.Concat.{flat_map-append}
use Rattle.std.proofs.lemmas.List.Elements.{All-nil, All-push}
use Rattle.std.proofs.lemmas.List.Sorted.{IsPermutation-append, IsPermutation-refl, IsPermutation-trans}
use Rattle.std.proofs.lemmas.List.Sums.{sum_by-append}
use Rattle.otp_model.specs.declared.timetable.Run.{Run}
use Rattle.trip_patterns.specs.FirstFit.{AreLanesOf, AreOfOneBlock, IsOfLane, rows_of}
use Rattle.trip_patterns.specs.Lanes.{LaneOf, empty_lane}
use Rattle.trip_patterns.specs.Timetables.{IsBlock, StandsFor}
use Rattle.snapshot_store.specs.Grouping.{IsBlockOf}

abbrev pub calls_in : List Run → ℕ
calls_in runs = sum_by (λ (run : Run). length run.calls) runs

-- the runs that are done stand in blocks, and their calls are counted
pub record AreDone (runs rest : List Run) (blocks : List (List LaneOf)) (before steps : ℕ) : Type 0 where
  pub done : List Run
  pub split : runs ≡ done ++ rest
  pub stand : StandsFor blocks done
  pub counted : steps ≡ before + calls_in done

pub none_done : (runs : List Run) (steps : ℕ) → AreDone runs runs [] steps steps
none_done runs steps = record {
  done = [];
  split = refl;
  stand = record { blocks_are = All-nil IsBlock; rows = IsPermutation-refl [] };
  counted = omega arith;
}

-- a block more
pub stands_more : (blocks : List (List LaneOf)) (runs group : List Run) (block : List LaneOf) → StandsFor blocks runs → IsBlockOf group block → StandsFor (blocks ++ block ∷ []) (runs ++ group)
stands_more blocks runs group block stand is = record {
  blocks_are = All-push IsBlock blocks block stand.blocks_are is.block;
  rows = subst (IsPermutation (runs ++ group))
      (sym (flat_map-append rows_of blocks (block ∷ []) ∙ ap (λ (xs : List Run). flat_map rows_of blocks ++ xs) (append-nil (rows_of block))))
      (IsPermutation-append runs (flat_map rows_of blocks) group (rows_of block) stand.rows is.rows);
}

pub more_done : (runs rest group others : List Run) (blocks after : List (List LaneOf)) (block : List LaneOf) (before steps then : ℕ) → AreDone runs rest blocks before steps
    → rest ≡ group ++ others → after ≡ blocks ++ block ∷ [] → IsBlockOf group block → then ≡ steps + calls_in group → AreDone runs others after before then
more_done runs rest group others blocks after block before steps then are parts more is counted = record {
  done = are.done ++ group;
  split = are.split ∙ ap (λ (xs : List Run). are.done ++ xs) parts ∙ sym (append_assoc are.done group others);
  stand = subst (λ (bs : List (List LaneOf)). StandsFor bs (are.done ++ group)) (sym more) (stands_more blocks are.done group block are.stand is);
  counted = omega (arith, counted, are.counted, sum_by-append (λ (run : Run). length run.calls) are.done group);
}

-- where no run is left all are done
pub whole_done : (runs rest : List Run) (blocks : List (List LaneOf)) (before steps : ℕ) → length rest ≡ 0 → AreDone runs rest blocks before steps → StandsFor blocks runs × (steps ≡ before + calls_in runs)
whole_done runs [] blocks before steps nothing are =
    let same : are.done ≡ runs = sym (are.split ∙ append-nil are.done) in
    (subst (StandsFor blocks) same are.stand, are.counted ∙ ap (λ (xs : List Run). before + calls_in xs) same)
whole_done runs (run ∷ rest) blocks before steps nothing are = absurd (omega arith)

-- the counted calls are never more than those of all runs
pub calls_within : (runs rest : List Run) (blocks : List (List LaneOf)) (before steps : ℕ) → AreDone runs rest blocks before steps → steps + calls_in rest ≡ before + calls_in runs
calls_within runs rest blocks before steps are =
    omega (arith, are.counted, ap calls_in are.split, sum_by-append (λ (run : Run). length run.calls) are.done rest)

-- lanes of some runs of one pattern and day are a block
pub block_of_lanes : (runs : List Run) (lanes : List LaneOf) → 0 < length runs → AreLanesOf runs lanes → IsBlockOf runs lanes
block_of_lanes [] lanes some are = absurd (omega arith)
block_of_lanes (run ∷ runs) lanes some are = record {
  block = record {
    lanes_are = are.each;
    same = λ i j d less within.
        let a = are.block i d (omega arith) 0 run some in
        let b = are.block j d within 0 run some in
        record { day = sym a.day ∙ b.day; pattern = sym a.pattern ∙ b.pattern };
  };
  rows = are.rows;
}

-- runs of the pattern and day of one are of one block
pub one_block : (first : Run) (runs : List Run) → All (IsOfLane (empty_lane first)) runs → AreOfOneBlock runs
one_block first runs are = λ k d less j e within.
    let a = are k d less in
    let b = are j e within in
    record { day = b.day ∙ sym a.day; pattern = b.pattern ∙ sym a.pattern }

-- the same blocks for the runs in another order
pub in_order : (runs ordered : List Run) (blocks : List (List LaneOf)) → IsPermutation runs ordered → StandsFor blocks ordered → StandsFor blocks runs
in_order runs ordered blocks moved stand = record {
  blocks_are = stand.blocks_are;
  rows = IsPermutation-trans runs ordered (flat_map rows_of blocks) moved stand.rows;
}
