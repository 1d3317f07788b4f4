-- Blocks that changes leave, and those that are made anew, one after the other.
use Rattle.std.proofs.Common.{◌≡◌, ℕ, suc, ◌+◌, ◌<◌, ◌≤◌, Bool, true, false, cond, not, ◌||◌, List, [], ◌∷◌, ◌++◌, length, map, take, drop, get_or, refl, sym, ap, subst, ◌∙◌, arith, inl, inr, ◌⊎◌}
use Rattle.std.specs.Prelude.{◌==◌}
use Rattle.std.specs.List.{All, flat_map, list_any, prefix_len, sum_by}
use Rattle.std.specs.List.Sorted.{IsPermutation}
use Rattle.std.proofs.lemmas.Bool.{ne_eqb}
use Rattle.std.proofs.lemmas.List.{append-nil, append_assoc, length-map, take-append-drop, take_all, take_more}
use Rattle.std.proofs.lemmas.List.Concat.{flat_map-append}
use Rattle.std.proofs.lemmas.List.Elements.{All-append, All-cons, All-filter, All-nil, All-push, filter-append}
use Rattle.std.proofs.lemmas.List.Sorted.{IsPermutation-append, IsPermutation-append_comm, IsPermutation-append_left, IsPermutation-append_right, IsPermutation-refl}
use Rattle.std.proofs.lemmas.List.Sums.{prefix_len-le-length, sum_by-append}
use Rattle.otp_model.specs.Patterns.{is_changed, is_touched, run_changed, touched, with_changes}
use Rattle.otp_model.specs.declared.change.Change.{Change}
use Rattle.otp_model.specs.declared.timetable.Run.{Run}
use Rattle.trip_patterns.specs.FirstFit.{rows_of}
use Rattle.trip_patterns.specs.Lanes.{LaneOf}
use Rattle.trip_patterns.specs.Timetables.{IsBlock, StandsFor}
use Rattle.snapshot_store.specs.Changing.{AreAdded, is_kept, is_opened, kept, written}
use Rattle.snapshot_store.specs.Order.{is_of_lanes}
use Rattle.snapshot_store.proofs.BlockLemmas.{calls_in, in_order}
use Rattle.snapshot_store.proofs.RowLemmas.{block_read}
use Rattle.snapshot_store.proofs.TakeLemmas.{all_changed, all_kept, any_left, any_right, rows_touched, weigh_all, weighed_within, weight}

-- the runs that the first so many blocks keep
abbrev pub kept_of : List Change → List (List LaneOf) → ℕ → List Run
kept_of changes blocks n = kept changes (flat_map rows_of (take n blocks))

-- of the runs that changes bring those in front are put into blocks, and no more calls are counted than of them and of the touched
-- runs that the first so many blocks keep
pub record AreCounted (changes : List Change) (blocks : List (List LaneOf)) (n : ℕ) (added rest : List Run) (start steps : ℕ) : Type 0 where
  pub front : List Run
  pub split : added ≡ front ++ rest
  pub counted : steps ≤ start + (sum_by (weight (flat_map rows_of blocks) changes) (kept_of changes blocks n) + calls_in front)

-- and the blocks that were made stand for these runs
pub record AreRenewed (changes : List Change) (blocks : List (List LaneOf)) (n : ℕ) (added rest : List Run) (made : List (List LaneOf)) (start steps : ℕ) : Type 0 where
  pub counts : AreCounted changes blocks n added rest start steps
  pub stand : StandsFor made (kept_of changes blocks n ++ counts.front)

pub none_renewed : (changes : List Change) (blocks : List (List LaneOf)) (added : List Run) (steps : ℕ) → AreRenewed changes blocks 0 added added [] steps steps
none_renewed changes blocks added steps = record {
  counts = record { front = []; split = refl; counted = omega arith };
  stand = record { blocks_are = All-nil IsBlock; rows = IsPermutation-refl [] };
}

-- blocks behind blocks
pub stand_behind : (blocks more all : List (List LaneOf)) (runs others : List Run) → StandsFor blocks runs → StandsFor more others → all ≡ blocks ++ more → StandsFor all (runs ++ others)
stand_behind blocks more all runs others stand behind is = record {
  blocks_are = subst (All IsBlock) (sym is) (All-append IsBlock blocks more stand.blocks_are behind.blocks_are);
  rows = subst (IsPermutation (runs ++ others)) (sym (ap (flat_map rows_of) is ∙ flat_map-append rows_of blocks more))
      (IsPermutation-append runs (flat_map rows_of blocks) others (flat_map rows_of more) stand.rows behind.rows);
}

-- ---- runs that come into blocks of their own

abbrev pub counted_put : (changes : List Change) (blocks : List (List LaneOf)) (n : ℕ) (added rest new others : List Run) (start steps then : ℕ) → AreCounted changes blocks n added rest start steps
    → rest ≡ new ++ others → then ≤ steps + calls_in new → AreCounted changes blocks n added others start then
counted_put changes blocks n added rest new others start steps then are parts most = record {
  front = are.front ++ new;
  split = are.split ∙ ap (λ (xs : List Run). are.front ++ xs) parts ∙ sym (append_assoc are.front new others);
  counted = omega (arith, are.counted, most, sum_by-append (λ (run : Run). length run.calls) are.front new);
}

abbrev pub renewed_put : (changes : List Change) (blocks : List (List LaneOf)) (n : ℕ) (added rest new others : List Run) (made after : List (List LaneOf)) (start steps then : ℕ)
    → AreRenewed changes blocks n added rest made start steps → rest ≡ new ++ others → AreAdded new made after → then ≤ steps + calls_in new
    → AreRenewed changes blocks n added others after start then
renewed_put changes blocks n added rest new others made after start steps then are parts more most = record {
  counts = counted_put changes blocks n added rest new others start steps then are.counts parts most;
  stand = subst (StandsFor after) (append_assoc (kept_of changes blocks n) are.counts.front new)
      (stand_behind made more.blocks after (kept_of changes blocks n ++ are.counts.front) new are.stand more.stand more.after_is);
}

-- ---- a block that is left or made anew

pub kept_more : (changes : List Change) (blocks : List (List LaneOf)) (n : ℕ) (lanes : List LaneOf) → n < length blocks → lanes ≡ get_or blocks n []
    → kept_of changes blocks (n + 1) ≡ kept_of changes blocks n ++ kept changes (rows_of lanes)
kept_more changes blocks n lanes less read =
    ap (λ (bs : List (List LaneOf)). kept changes (flat_map rows_of bs)) (take_more blocks n [] less)
    ∙ ap (kept changes) (flat_map-append rows_of (take n blocks) (get_or blocks n [] ∷ [])
    ∙ ap (λ (xs : List Run). flat_map rows_of (take n blocks) ++ xs) (append-nil (rows_of (get_or blocks n [])) ∙ ap rows_of (sym read)))
    ∙ filter-append (is_kept changes) (flat_map rows_of (take n blocks)) (rows_of lanes)

-- the second and the third of four parts change places
exchange : (a b c d : List Run) → IsPermutation ((a ++ b) ++ (c ++ d)) ((a ++ c) ++ (b ++ d))
exchange a b c d =
    subst (λ (xs : List Run). IsPermutation xs ((a ++ c) ++ (b ++ d))) (sym (append_assoc a b (c ++ d)))
    (subst (IsPermutation (a ++ (b ++ (c ++ d)))) (sym (append_assoc a c (b ++ d)))
    (IsPermutation-append_right a (b ++ (c ++ d)) (c ++ (b ++ d))
    (subst (λ (xs : List Run). IsPermutation xs (c ++ (b ++ d))) (append_assoc b c d)
    (subst (IsPermutation ((b ++ c) ++ d)) (append_assoc c b d) (IsPermutation-append_left d (b ++ c) (c ++ b) (IsPermutation-append_comm b c))))))

-- what opens a block
opened : (changes : List Change) (own : List Run) (lanes : List LaneOf) → is_opened changes own lanes ≡ true → (0 < length own) ⊎ (list_any (is_changed changes) (rows_of lanes) ≡ true)
opened changes [] lanes h = inr h
opened changes (run ∷ own) lanes h = inl (omega arith)

-- what is written for a block: the calls of touched runs that it keeps, and of those that are put into it
pub written_within : (changes : List Change) (blocks : List (List LaneOf)) (n : ℕ) (lanes : List LaneOf) (added front own behind : List Run) → IsPermutation (flat_map run_changed changes) added
    → n < length blocks → get_or blocks n [] ≡ lanes → IsBlock lanes → added ≡ front ++ (own ++ behind) → All (λ (run : Run). is_of_lanes lanes run ≡ true) own
    → written changes own lanes ≤ sum_by (weight (flat_map rows_of blocks) changes) (kept changes (rows_of lanes)) + calls_in own
written_within changes blocks n lanes added front own behind moved less at is split of-lanes = by_case (is_opened changes own lanes) refl
  where
    P : Run → Bool
    P = is_of_lanes lanes

    T : Run → Type 0
    T run = is_touched (flat_map rows_of blocks ++ added) changes run ≡ true

    k : List Run
    k = kept changes (rows_of lanes)

    comes : 0 < length own → list_any P added ≡ true
    comes some =
        ap (list_any P) split
        ∙ any_right P front (own ++ behind) (any_left P own behind (first own some of-lanes))
      where
        first : (xs : List Run) → 0 < length xs → All (λ (run : Run). P run ≡ true) xs → list_any P xs ≡ true
        first [] some all = absurd (omega arith)
        first (x ∷ xs) some all = ap (λ (b : Bool). b || list_any P xs) (all 0 x (omega arith))

    by_case : (b : Bool) → is_opened changes own lanes ≡ b → written changes own lanes ≤ sum_by (weight (flat_map rows_of blocks) changes) k + calls_in own
    by_case false h = omega (arith, ap (λ (b : Bool). cond b (calls_in (k ++ own)) 0) h)
    by_case true h =
        let joined : (list_any P added ≡ true) ⊎ (list_any (is_changed changes) (rows_of lanes) ≡ true)
        = elim (opened changes own lanes h) [ inl some ↦ inl (comes some) | inr changed ↦ inr changed ] in
        let touched-rows : All T (rows_of lanes) = rows_touched changes added blocks n lanes less at is (all_changed changes added moved) joined in
        omega (
          arith,
          ap (λ (b : Bool). cond b (calls_in (k ++ own)) 0) h,
          sum_by-append (λ (run : Run). length run.calls) k own,
          weigh_all (flat_map rows_of blocks) changes added moved k (All-filter (is_kept changes) T (rows_of lanes) touched-rows),
        )

-- the two parts of a list
pub two_parts : {X : Type 0} (n : ℕ) (xs front back : List X) → front ≡ take n xs → back ≡ drop n xs → xs ≡ front ++ back
two_parts n xs front back front-is back-is = sym ((λ i. front-is i ++ back-is i) ∙ take-append-drop n xs)

-- the first runs that are of a block
of_prefix : (P : Run → Bool) (runs : List Run) (n : ℕ) → n ≡ prefix_len P runs → All (λ (run : Run). P run ≡ true) (take n runs)
of_prefix P runs n is = subst (λ (m : ℕ). All (λ (run : Run). P run ≡ true) (take m runs)) (sym is) (leading runs)
  where
    Q : Run → Type 0
    Q run = P run ≡ true

    leading : (xs : List Run) → All Q (take (prefix_len P xs) xs)
    leading [] = All-nil Q
    leading (x ∷ xs) = from (P x) refl (leading xs)
      where
        from : (b : Bool) → P x ≡ b → All Q (take (prefix_len P xs) xs) → All Q (take (cond (P x) (1 + prefix_len P xs) 0) (x ∷ xs))
        from true e rest =
            let next : suc (prefix_len P xs) ≡ 1 + prefix_len P xs = omega arith in
            subst (λ (k : ℕ). All Q (take k (x ∷ xs))) (next ∙ ap (λ (b : Bool). cond b (1 + prefix_len P xs) 0) (sym e)) (All-cons Q x (take (prefix_len P xs) xs) e rest)
        from false e rest = subst (λ (k : ℕ). All Q (take k (x ∷ xs))) (ap (λ (b : Bool). cond b (1 + prefix_len P xs) 0) (sym e)) (All-nil Q)

-- a turn at a block: of the runs that are left some come before the block, some into it, and the others behind
pub record IsTurn (blocks : List (List LaneOf)) (n : ℕ) (lanes : List LaneOf) (rest new own behind : List Run) : Type 0 where
  pub within : n < length blocks
  pub read : lanes ≡ get_or blocks n []
  pub block : IsBlock lanes
  pub others : List Run
  pub first : rest ≡ new ++ others
  pub second : others ≡ own ++ behind
  pub of-lanes : All (λ (run : Run). is_of_lanes lanes run ≡ true) own

pub turn : {B : Type 0} (value : B → List LaneOf) (items : List B) (n : ℕ) (item : B) (slice : List LaneOf) (rest new others own behind : List Run) (before into : ℕ) → All IsBlock (map value items)
    → n < length items → item ≡ get_or items n item → slice ≡ value item → new ≡ take before rest → others ≡ drop before rest → own ≡ take into others → behind ≡ drop into others
    → into ≡ prefix_len (is_of_lanes slice) others → IsTurn (map value items) n (value item) rest new own behind
turn value items n item slice rest new others own behind before into are less at same new-is others-is own-is behind-is count =
    let within : n < length (map value items) = omega (arith, less, length-map items value) in
    let read = block_read value items n item less at in
    record {
      within = within;
      read = read;
      block = subst IsBlock (sym read) (are n [] within);
      others = others;
      first = two_parts before rest new others new-is others-is;
      second = two_parts into others own behind own-is behind-is;
      of-lanes = subst (All (λ (run : Run). is_of_lanes (value item) run ≡ true)) (sym own-is)
          (of_prefix (is_of_lanes (value item)) others into (count ∙ ap (λ (lanes : List LaneOf). prefix_len (is_of_lanes lanes) others) same));
    }

module _ (changes : List Change) (blocks : List (List LaneOf)) (n : ℕ) (lanes : List LaneOf) (added rest new own behind : List Run) (start steps between then : ℕ)
    (moved : IsPermutation (flat_map run_changed changes) added) (is : IsTurn blocks n lanes rest new own behind) (most-new : between ≤ steps + calls_in new)
    (most : then ≤ between + written changes own lanes) where
  abbrev pub counted_block : AreCounted changes blocks n added rest start steps → AreCounted changes blocks (n + 1) added behind start then
  counted_block before =
      let are = counted_put changes blocks n added rest new is.others start steps between before is.first most-new in
      let split : added ≡ are.front ++ (own ++ behind) = are.split ∙ ap (λ (xs : List Run). are.front ++ xs) is.second in
      record {
        front = are.front ++ own;
        split = split ∙ sym (append_assoc are.front own behind);
        counted = omega (
          arith,
          are.counted,
          most,
          written_within changes blocks n lanes added are.front own behind moved is.within (sym is.read) is.block split is.of-lanes,
          ap (sum_by (weight (flat_map rows_of blocks) changes)) (kept_more changes blocks n lanes is.within is.read),
          sum_by-append (weight (flat_map rows_of blocks) changes) (kept_of changes blocks n) (kept changes (rows_of lanes)),
          sum_by-append (λ (run : Run). length run.calls) are.front own,
        );
      }

  pub renewed_block : (made middle after : List (List LaneOf)) → AreRenewed changes blocks n added rest made start steps → AreAdded new made middle
      → AreAdded (kept changes (rows_of lanes) ++ own) middle after → AreRenewed changes blocks (n + 1) added behind after start then
  renewed_block made middle after before put more =
      let are = renewed_put changes blocks n added rest new is.others made middle start steps between before is.first put most-new in
      let k : List Run = kept changes (rows_of lanes) in
      let first : List Run = kept_of changes blocks n in
      let front : List Run = are.counts.front in
      let all = stand_behind middle more.blocks after (first ++ front) (k ++ own) are.stand more.stand more.after_is in
      record {
        counts = counted_block before.counts;
        stand = subst (λ (xs : List Run). StandsFor after (xs ++ (front ++ own))) (sym (kept_more changes blocks n lanes is.within is.read))
            (in_order ((first ++ k) ++ (front ++ own)) ((first ++ front) ++ (k ++ own)) after (exchange first k front own) all);
      }

-- ---- the end

-- no more is counted than is touched
pub counted_most : (changes : List Change) (blocks : List (List LaneOf)) (n : ℕ) (added rest : List Run) (start steps : ℕ) → IsPermutation (flat_map run_changed changes) added
    → AreCounted changes blocks n added rest start steps
    → steps ≤ start + touched (flat_map rows_of blocks) (with_changes (flat_map rows_of blocks) changes) changes
counted_most changes blocks n added rest start steps moved are =
    let before : List Run = flat_map rows_of blocks in
    let w = weight before changes in
    let later : List Run = kept changes (flat_map rows_of (drop n blocks)) in
    let parts : kept changes before ≡ kept_of changes blocks n ++ later
    = ap (kept changes) (ap (flat_map rows_of) (sym (take-append-drop n blocks)) ∙ flat_map-append rows_of (take n blocks) (drop n blocks))
    ∙ filter-append (is_kept changes) (flat_map rows_of (take n blocks)) (flat_map rows_of (drop n blocks)) in
    omega (
      arith,
      are.counted,
      weighed_within before changes added moved,
      ap (sum_by w) parts,
      sum_by-append w (kept_of changes blocks n) later,
      ap calls_in are.split,
      sum_by-append (λ (run : Run). length run.calls) are.front rest,
    )

-- the blocks stand for the schedule after the changes
pub renewed_whole : (changes : List Change) (blocks : List (List LaneOf)) (n : ℕ) (added : List Run) (made : List (List LaneOf)) (start steps : ℕ) → IsPermutation (flat_map run_changed changes) added
    → length blocks ≤ n → AreRenewed changes blocks n added [] made start steps → StandsFor made (with_changes (flat_map rows_of blocks) changes)
renewed_whole changes blocks n added made start steps moved whole are =
    let before : List Run = flat_map rows_of blocks in
    let stand : StandsFor made (kept changes before ++ added)
    = subst (λ (xs : List Run). StandsFor made (kept changes before ++ xs)) (sym (are.counts.split ∙ append-nil are.counts.front))
    (subst (λ (bs : List (List LaneOf)). StandsFor made (kept changes (flat_map rows_of bs) ++ are.counts.front)) (take_all n blocks whole) are.stand) in
    in_order (with_changes before changes) (kept changes before ++ added) made (IsPermutation-append_right (kept changes before) (flat_map run_changed changes) added moved) stand

-- the block is added as it is
pub shared_block : (changes : List Change) (own : List Run) (lanes : List LaneOf) (before after : List (List LaneOf)) → IsBlock lanes → is_opened changes own lanes ≡ false
    → after ≡ before ++ lanes ∷ [] → AreAdded (kept changes (rows_of lanes) ++ own) before after
shared_block changes [] lanes before after is closed more = record {
  blocks = lanes ∷ [];
  after_is = more;
  stand = record {
    blocks_are = All-push IsBlock [] lanes (All-nil IsBlock) is;
    rows = subst (λ (xs : List Run). IsPermutation xs (rows_of lanes ++ [])) (ap (λ (xs : List Run). xs ++ []) (sym (all_kept changes (rows_of lanes) closed))) (IsPermutation-refl (rows_of lanes ++ []));
  };
}
shared_block changes (run ∷ own) lanes before after is closed more =
    let some : (length (run ∷ own) == 0) ≡ false = ne_eqb (length (run ∷ own)) 0 (λ e. absurd (omega (arith, e))) in
    absurd (let never : true ≡ false = sym (ap (λ (b : Bool). not b || list_any (is_changed changes) (rows_of lanes)) some) ∙ closed in cc)

pub prefix_within : (P : Run → Bool) (runs : List Run) (n : ℕ) → n ≡ prefix_len P runs → n ≤ length runs
prefix_within P runs n is = omega (arith, is, prefix_len-le-length P runs)

-- no runs are left behind all of them
pub none_behind : (runs : List Run) → runs ≡ runs ++ []
none_behind runs = sym (append-nil runs)
