-- Levels, written one after the other.
use Rattle.std.proofs.Common.{◌≡◌, ◌≢◌, inl, inr, ℕ, ◌+◌, ◌-◌, ◌*◌, ◌≤◌, ◌<◌, List, length, subst, ◌∙◌, arith, slice_index}
use Rattle.std.proofs.lemmas.Bool.{cases_lt}
use Rattle.otp_model.specs.declared.timetable.Edge.{Edge}
use Rattle.trip_patterns.specs.Shapes.{ShapeOf}
use Rattle.end_bounds.specs.Levels.{AreEdgeBounds, AreRenewed, AreScanned, IsLevel}
use Rattle.end_bounds.specs.Making.{AreMade}
use Rattle.end_bounds.specs.Tables.{AreOthersKept, IsBlank, IsColumn}
use Rattle.end_bounds.proofs.TableLemmas.{column_kept}

-- where nothing is reached, all shapes have their bounds
pub blank_scanned : (now : List ℕ) (shapes : List ShapeOf) (bases : List ℕ) (count : ℕ) (ready place : List ℕ) → IsBlank now → IsBlank ready → IsBlank place → AreScanned now shapes bases count ready place
blank_scanned now shapes bases count ready place none no_ready no_place = record {
  each = λ n shape less at. record {
    onward = λ p low inside. record {
      each = λ run exit here to fits before at end. let reached = end.reached in absurd (omega (arith, none to.stop));
    };
    boards = λ p spot low at may. omega (arith, no_ready spot.stop, no_place (slice_index bases n + p));
  };
}

module _ (from : List (List Edge)) (slack stops places : ℕ) (shapes : List ShapeOf) (bases : List ℕ) (rides : ℕ) (first : List ℕ) where
  pub made_none : (blank alight ready place before readies onward : List ℕ) → length blank ≡ stops * rides → length alight ≡ length blank → length ready ≡ stops * (rides - 1) → length place ≡ places * (rides - 1) → length first ≡ stops
      → length readies ≡ stops * 1 → length onward ≡ places * 1 → IsBlank before → IsBlank readies → IsBlank onward → IsColumn rides alight 0 first
      → AreMade from slack stops places shapes bases rides first 0 alight ready place before first readies onward
  made_none blank alight ready place before readies onward alight_size same ready_size place_size first_size readies_size onward_size no_before no_readies no_onward begins = record {
    alight_size = same ∙ alight_size;
    ready_size = ready_size;
    place_size = place_size;
    now_size = first_size;
    readies_size = omega (arith, readies_size);
    onward_size = omega (arith, onward_size);
    scanned = blank_scanned before shapes bases (length shapes) readies onward no_before no_readies no_onward;
    now_is = begins;
    levels = record { begins = begins; each = λ more less. absurd (omega arith) };
  }

  -- a level stays where the columns of the next one are written
  level_kept : (count more : ℕ) (alight new_alight ready new_ready place new_place : List ℕ) → more < count → count < rides - 1
      → AreOthersKept rides (count + 1) alight new_alight → AreOthersKept (rides - 1) count ready new_ready → AreOthersKept (rides - 1) count place new_place
      → IsLevel from slack stops shapes bases rides alight ready place more → IsLevel from slack stops shapes bases rides new_alight new_ready new_place more
  level_kept count more alight new_alight ready new_ready place new_place less few a b c level =
      let one : more ≢ count + 1 = omega arith in
      let two : more + 1 ≢ count + 1 = omega arith in
      let three : more ≢ count = omega arith in
      record {
        now = level.now;
        next = level.next;
        readies = level.readies;
        places = level.places;
        now_is = column_kept rides (count + 1) more alight new_alight level.now (omega arith) one a level.now_is;
        next_is = column_kept rides (count + 1) (more + 1) alight new_alight level.next (omega arith) two a level.next_is;
        readies_are = column_kept (rides - 1) count more ready new_ready level.readies (omega arith) three b level.readies_are;
        places_are = column_kept (rides - 1) count more place new_place level.places (omega arith) three c level.places_are;
        scanned = level.scanned;
        edges = level.edges;
      }

  pub made_more : (count : ℕ) (alight new_alight ready new_ready place new_place before now next readies new_readies onward new_onward : List ℕ) → count < rides - 1
      → AreRenewed now shapes bases (length shapes) readies new_readies onward new_onward
      → length next ≡ length now → AreEdgeBounds from slack (length now) new_readies next
      → length new_ready ≡ length ready → IsColumn (rides - 1) new_ready count new_readies → AreOthersKept (rides - 1) count ready new_ready
      → length new_place ≡ length place → IsColumn (rides - 1) new_place count new_onward → AreOthersKept (rides - 1) count place new_place
      → length new_alight ≡ length alight → IsColumn rides new_alight (count + 1) next → AreOthersKept rides (count + 1) alight new_alight
      → AreMade from slack stops places shapes bases rides first count alight ready place before now readies onward
      → AreMade from slack stops places shapes bases rides first (count + 1) new_alight new_ready new_place now next new_readies new_onward
  made_more count alight new_alight ready new_ready place new_place before now next readies new_readies onward new_onward few renewed next_size edges ready_size ready_is ready_kept place_size place_is place_kept alight_size next_is alight_kept made =
      let levels = made.levels in
      let ne : count ≢ count + 1 = omega arith in
      let zeroth : 0 ≢ count + 1 = omega arith in
      record {
        alight_size = alight_size ∙ made.alight_size;
        ready_size = ready_size ∙ made.ready_size;
        place_size = place_size ∙ made.place_size;
        now_size = next_size ∙ made.now_size;
        readies_size = renewed.ready_size ∙ made.readies_size;
        onward_size = renewed.size ∙ made.onward_size;
        scanned = renewed.scanned;
        now_is = next_is;
        levels = record {
          begins = column_kept rides (count + 1) 0 alight new_alight first (omega arith) zeroth alight_kept levels.begins;
          each = λ more less. elim (cases_lt more count) [
            | inl before ↦ level_kept count more alight new_alight ready new_ready place new_place before few alight_kept ready_kept place_kept (levels.each more before)
            | inr upto ↦ subst (λ (k : ℕ). IsLevel from slack stops shapes bases rides new_alight new_ready new_place k) (last more less upto) (record {
              now = now;
              next = next;
              readies = new_readies;
              places = new_onward;
              now_is = column_kept rides (count + 1) count alight new_alight now (omega arith) ne alight_kept made.now_is;
              next_is = next_is;
              readies_are = ready_is;
              places_are = place_is;
              scanned = renewed.scanned;
              edges = subst (λ (k : ℕ). AreEdgeBounds from slack k new_readies next) made.now_size edges;
            })
          ];
        };
      }
    where
      last : (more : ℕ) → more < count + 1 → count ≤ more → count ≡ more
      last more less upto = omega arith
