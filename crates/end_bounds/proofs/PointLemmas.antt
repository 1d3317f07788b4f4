-- Points along the positions of shapes, and level by level.
use Rattle.std.proofs.Common.{◌≡◌, ◌≢◌, inl, inr, ℕ, ◌+◌, ◌*◌, ◌≤◌, ◌<◌, min, List, Some, IsTrue, length, refl, sym, subst, ◌∙◌, arith}
use Rattle.std.specs.List.{slice_get}
use Rattle.std.proofs.lemmas.Bool.{cases_lt}
use Rattle.std.proofs.lemmas.Option.{same_Some, slice_get_within}
use Rattle.otp_model.specs.Patterns.{Spot}
use Rattle.otp_model.specs.declared.timetable.Edge.{Edge}
use Rattle.trip_patterns.specs.Shapes.{ShapeOf}
use Rattle.end_bounds.specs.Points.{AreEdgePoints, ArePointed, ArePointsMade, AreRaised, AreRepointed, IsPointColumn, IsPointLevel, IsPointedFrom, IsPointing}
use Rattle.end_bounds.specs.Scans.{IsLowered, IsReadyFor, IsUnchanged, far, number_at}
use Rattle.end_bounds.specs.Tables.{AreOthersKept, IsBlank, IsColumn}

pub pointing_begins : (now : List ℕ) (shape : ShapeOf) (best : ℕ) (ready : List ℕ) → IsPointing now shape (length shape.pattern) best ready ready
pointing_begins now shape best ready = record {
  within = omega arith;
  size = refl;
  lowered = λ n. omega arith;
  exits = record { each = λ exit spot low at may. absurd (omega (arith, slice_get_within shape.pattern exit spot at)) };
  pointed = record { each = λ p q s z low before at to may leave. absurd (omega (arith, slice_get_within shape.pattern p s at)) };
}

still_pointed : (now : List ℕ) (shape : ShapeOf) (low : ℕ) (ready new_ready : List ℕ) → IsLowered ready new_ready → IsPointedFrom now shape low ready → IsPointedFrom now shape low new_ready
still_pointed now shape low ready new_ready lowered pointed = record {
  each = λ p q s z a b at to may leave. let x = pointed.each p q s z a b at to may leave in let y = lowered s.stop in omega arith;
}

pub pointing_more : (now : List ℕ) (shape : ShapeOf) (position : ℕ) (spot : Spot) (best more : ℕ) (old_ready ready new_ready : List ℕ) → slice_get shape.pattern position ≡ Some spot
    → more ≤ best → (IsTrue spot.alight → more ≤ number_at now spot.stop) → length new_ready ≡ length ready → IsLowered ready new_ready → IsReadyFor new_ready spot best
    → IsPointing now shape (position + 1) best old_ready ready → IsPointing now shape position more old_ready new_ready
pointing_more now shape position spot best more old_ready ready new_ready spot_is most alights same low boards s =
    let still = still_pointed now shape (position + 1) ready new_ready low s.pointed in
    record {
      within = let w = s.within in omega arith;
      size = same ∙ s.size;
      lowered = λ n. let a = s.lowered n in let b = low n in omega arith;
      exits = record {
        each = λ exit z upto at may. elim (cases_lt position exit) [
          | inl after ↦ (let e = s.exits in let a = e.each exit z (omega arith) at may in omega arith)
          | inr not_after ↦ here exit z (omega arith) at may
        ];
      };
      pointed = record {
        each = λ p q x z a b at to may leave. elim (cases_lt position p) [
          | inl after ↦ still.each p q x z (omega arith) b at to may leave
          | inr not_after ↦ boarding p q x z (omega arith) b at to may leave
        ];
      };
    }
  where
    here : (exit : ℕ) (z : Spot) → exit ≡ position → slice_get shape.pattern exit ≡ Some z → IsTrue z.alight → more ≤ number_at now z.stop
    here exit z e at may = subst (λ (x : Spot). IsTrue x.alight → more ≤ number_at now x.stop) (same_Some spot z (sym spot_is ∙ rw e at at)) alights may

    boarding : (p q : ℕ) (x z : Spot) → p ≡ position → p < q → slice_get shape.pattern p ≡ Some x → slice_get shape.pattern q ≡ Some z → IsTrue x.board → IsTrue z.alight → number_at new_ready x.stop ≤ number_at now z.stop
    boarding p q x z e before at to may leave =
        let first = subst (λ (y : Spot). IsReadyFor new_ready y best) (same_Some spot x (sym spot_is ∙ rw e at at)) boards may in
        let exits = s.exits in
        let then = exits.each q z (omega arith) to leave in
        omega arith

pub unchanged_pointed : (before now : List ℕ) (shape : ShapeOf) (ready : List ℕ) → IsUnchanged before now shape → IsPointedFrom before shape 0 ready → IsPointedFrom now shape 0 ready
unchanged_pointed before now shape ready same pointed = record {
  each = λ p q s z a b at to may leave. let x = pointed.each p q s z a b at to may leave in let y = same.each q z to in omega arith;
}

pub repointed_none : (before now : List ℕ) (shapes : List ShapeOf) (ready : List ℕ) → ArePointed before shapes ready → AreRepointed before now shapes 0 ready ready
repointed_none before now shapes ready pointed = record {
  size = refl;
  lowered = λ n. omega arith;
  pointed = λ n shape less at. absurd (omega arith);
  ahead = λ n shape upto at. pointed.each n shape at;
}

pub repointed_more : (before now : List ℕ) (shapes : List ShapeOf) (n : ℕ) (shape : ShapeOf) (old_ready ready new_ready : List ℕ) → slice_get shapes n ≡ Some shape → length new_ready ≡ length ready
    → IsLowered ready new_ready → IsPointedFrom now shape 0 new_ready → AreRepointed before now shapes n old_ready ready → AreRepointed before now shapes (n + 1) old_ready new_ready
repointed_more before now shapes n shape old_ready ready new_ready shape_is same low here s = record {
  size = same ∙ s.size;
  lowered = λ k. let a = s.lowered k in let b = low k in omega arith;
  pointed = λ m y less at. elim (cases_lt m n) [
    | inl inside ↦ still_pointed now y 0 ready new_ready low (s.pointed m y inside at)
    | inr upto ↦ last m y (omega arith) at
  ];
  ahead = λ m y upto at. still_pointed before y 0 ready new_ready low (s.ahead m y (omega arith) at);
}
  where
    last : (m : ℕ) (y : ShapeOf) → m ≡ n → slice_get shapes m ≡ Some y → IsPointedFrom now y 0 new_ready
    last m y e at = subst (λ (z : ShapeOf). IsPointedFrom now z 0 new_ready) (same_Some shape y (sym shape_is ∙ rw e at at)) here

-- ---- levels

point_column_kept : (columns board_points column other : ℕ) (old new points : List ℕ) → other < columns → other ≢ column → AreOthersKept columns column old new → IsPointColumn columns board_points old other points
    → IsPointColumn columns board_points new other points
point_column_kept columns board_points column other old new points less ne kept is = record { each = λ row. kept.each row other less ne ∙ is.each row }

pub point_column : (columns board_points : ℕ) (table : List ℕ) (column : ℕ) (points raised : List ℕ) → IsColumn columns table column raised → AreRaised (min (column * board_points) far) points raised
    → IsPointColumn columns board_points table column points
point_column columns board_points table column points raised is are = record { each = λ row. is.each row ∙ are.each row }

repointed_all : (before now : List ℕ) (shapes : List ShapeOf) (old_ready ready : List ℕ) → AreRepointed before now shapes (length shapes) old_ready ready → ArePointed now shapes ready
repointed_all before now shapes old_ready ready s = record { each = λ n shape at. s.pointed n shape (slice_get_within shapes n shape at) at }

blank_pointed : (now : List ℕ) (shapes : List ShapeOf) (ready : List ℕ) → IsBlank now → IsBlank ready → ArePointed now shapes ready
blank_pointed now shapes ready none no_ready = record {
  each = λ n shape at. record { each = λ p q s z a b x y may leave. omega (arith, none z.stop, no_ready s.stop) };
}

module _ (from : List (List Edge)) (walk_points board_points stops : ℕ) (shapes : List ShapeOf) (rides more : ℕ) (first : List ℕ) where
  pub points_none : (blank alight ready before readies : List ℕ) → length blank ≡ stops * rides → length alight ≡ length blank → length ready ≡ stops * more → length first ≡ stops
      → length readies ≡ stops * 1 → IsBlank before → IsBlank readies → IsPointColumn rides board_points alight 0 first
      → ArePointsMade from walk_points board_points stops shapes rides more first 0 alight ready before first readies
  points_none blank alight ready before readies alight_size same ready_size first_size readies_size no_before no_readies begins = record {
    alight_size = same ∙ alight_size;
    ready_size = ready_size;
    now_size = first_size;
    readies_size = omega (arith, readies_size);
    pointed = blank_pointed before shapes readies no_before no_readies;
    now_is = begins;
    levels = record { begins = begins; each = λ level less. absurd (omega arith) };
  }

  point_level_kept : (count level : ℕ) (alight new_alight ready new_ready : List ℕ) → level < count → count < more → count + 1 < rides
      → AreOthersKept rides (count + 1) alight new_alight → AreOthersKept more count ready new_ready
      → IsPointLevel from walk_points board_points stops shapes rides more alight ready level → IsPointLevel from walk_points board_points stops shapes rides more new_alight new_ready level
  point_level_kept count level alight new_alight ready new_ready less few fits a b l =
      let one : level ≢ count + 1 = omega arith in
      let two : level + 1 ≢ count + 1 = omega arith in
      let three : level ≢ count = omega arith in
      record {
        now = l.now;
        next = l.next;
        readies = l.readies;
        now_is = point_column_kept rides board_points (count + 1) level alight new_alight l.now (omega arith) one a l.now_is;
        next_is = point_column_kept rides board_points (count + 1) (level + 1) alight new_alight l.next (omega arith) two a l.next_is;
        readies_are = point_column_kept more board_points count level ready new_ready l.readies (omega arith) three b l.readies_are;
        pointed = l.pointed;
        edges = l.edges;
      }

  pub points_more : (count : ℕ) (alight new_alight ready new_ready before now next readies new_readies : List ℕ) → count < more → count + 1 < rides
      → AreRepointed before now shapes (length shapes) readies new_readies
      → length next ≡ length now → AreEdgePoints from walk_points board_points (length now) new_readies next
      → length new_ready ≡ length ready → IsPointColumn more board_points new_ready count new_readies → AreOthersKept more count ready new_ready
      → length new_alight ≡ length alight → IsPointColumn rides board_points new_alight (count + 1) next → AreOthersKept rides (count + 1) alight new_alight
      → ArePointsMade from walk_points board_points stops shapes rides more first count alight ready before now readies
      → ArePointsMade from walk_points board_points stops shapes rides more first (count + 1) new_alight new_ready now next new_readies
  points_more count alight new_alight ready new_ready before now next readies new_readies few fits renewed next_size edges ready_size ready_is ready_kept alight_size next_is alight_kept made =
      let levels = made.levels in
      let ne : count ≢ count + 1 = omega arith in
      let zeroth : 0 ≢ count + 1 = omega arith in
      let pointed = repointed_all before now shapes readies new_readies renewed in
      record {
        alight_size = alight_size ∙ made.alight_size;
        ready_size = ready_size ∙ made.ready_size;
        now_size = next_size ∙ made.now_size;
        readies_size = renewed.size ∙ made.readies_size;
        pointed = pointed;
        now_is = next_is;
        levels = record {
          begins = point_column_kept rides board_points (count + 1) 0 alight new_alight first (omega arith) zeroth alight_kept levels.begins;
          each = λ level less. elim (cases_lt level count) [
            | inl inside ↦ point_level_kept count level alight new_alight ready new_ready inside few fits alight_kept ready_kept (levels.each level inside)
            | inr upto ↦ subst (λ (k : ℕ). IsPointLevel from walk_points board_points stops shapes rides more new_alight new_ready k) (last level less upto) (record {
              now = now;
              next = next;
              readies = new_readies;
              now_is = point_column_kept rides board_points (count + 1) count alight new_alight now (omega arith) ne alight_kept made.now_is;
              next_is = next_is;
              readies_are = ready_is;
              pointed = pointed;
              edges = subst (λ (k : ℕ). AreEdgePoints from walk_points board_points k new_readies next) made.now_size edges;
            })
          ];
        };
      }
    where
      last : (level : ℕ) → level < count + 1 → count ≤ level → count ≡ level
      last level less upto = omega arith
