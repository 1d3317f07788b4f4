-- The positions of a shape, gone through from the last to the first.
use Rattle.std.proofs.Common.{◌≡◌, ◌≢◌, ◌⊎◌, inl, inr, ℕ, ◌+◌, ◌≤◌, ◌<◌, ℤ, pos, ◌+ℤ◌, ◌≤ℤ◌, List, Some, IsTrue, length, get_or, refl, sym, subst, ◌∙◌, arith, slice_set}
use Rattle.std.specs.List.{slice_get}
use Rattle.std.proofs.lemmas.Bool.{cases_lt}
use Rattle.std.proofs.lemmas.Int.{ints}
use Rattle.std.proofs.lemmas.List.{get_or-set_other, get_or-set_same, length-set}
use Rattle.std.proofs.lemmas.Option.{same_Some, slice_get-get_or, slice_get-map, slice_get_within}
use Rattle.otp_model.specs.Patterns.{Spot, spot_of}
use Rattle.otp_model.specs.declared.timetable.Call.{Call}
use Rattle.otp_model.specs.declared.timetable.Run.{Run}
use Rattle.trip_patterns.specs.Shapes.{FitsShape, ShapeOf}
use Rattle.end_bounds.specs.Scans.{IsBoundFromArrival, IsBoundFromDeparture, IsExit, IsKeptOutside, IsLowered, IsNoLater, IsReadyFor, IsScannedFrom, IsScanning, IsUnchanged, far, number_at}

-- the spot of a call stands at its position
pub spot_at : (shape : ShapeOf) (run : Run) (position : ℕ) (call : Call) → FitsShape shape run → slice_get run.calls position ≡ Some call → slice_get shape.pattern position ≡ Some (spot_of call)
spot_at shape run position call fits at =
    subst (λ (pattern : List Spot). slice_get pattern position ≡ Some (spot_of call)) fits.pattern (rw at at (slice_get-map spot_of run.calls position))

sooner : (seconds more step left : ℕ) (from next to : ℤ) → (seconds < far → more < far) → more ≤ seconds + step → (from +ℤ pos step) ≤ℤ next → IsNoLater seconds next to left → IsNoLater more from to left
sooner seconds more step left from next to within most later bound =
    let ends = bound.ends in
    record { within = within bound.within; ends = omega (arith, ints) }

-- past the last position there is no call
left_past : (now : List ℕ) (shape : ShapeOf) (position best : ℕ) → length shape.pattern ≤ position → IsBoundFromArrival now shape position best
left_past now shape position best past = record {
  each = λ run exit here to fits from at end. absurd (omega (arith, slice_get_within shape.pattern position _ (spot_at shape run position here fits at)));
}

module _ (now : List ℕ) (shape : ShapeOf) (position hop dwell : ℕ) (spot : Spot) (spot_is : slice_get shape.pattern position ≡ Some spot)
    (hop_is : slice_get shape.hops position ≡ Some hop) (dwell_is : slice_get shape.dwells position ≡ Some dwell) where
  -- from the departure: the hop, and what is left at the next position
  departs : (best onward : ℕ) → (best < far → onward < far) → onward ≤ best + hop → IsBoundFromArrival now shape (position + 1) best → IsBoundFromDeparture now shape position onward
  departs best onward within most left = record {
    each = λ run exit here to fits before at end.
        let inside = slice_get_within run.calls exit to end.at in
        let next = get_or run.calls (position + 1) here in
        let next_is = slice_get-get_or run.calls (position + 1) here (omega arith) in
        sooner best onward hop _ here.departure next.arrival to.arrival within most (fits.hop position hop here next hop_is at next_is) (left.each run exit next to fits (omega arith) next_is end);
  }

  -- from the arrival: alighting there, or the dwell and riding on
  arrives : (onward best : ℕ) → (onward < far → best < far) → best ≤ onward + dwell → (IsTrue spot.alight → best ≤ number_at now spot.stop) → IsBoundFromDeparture now shape position onward → IsBoundFromArrival now shape position best
  arrives onward best within most alights rides = record {
    each = λ run exit here to fits from at end. elim (cases_lt position exit) [
      | inl before ↦ sooner onward best dwell _ here.arrival here.departure to.arrival within most (fits.dwell position dwell here dwell_is at) (rides.each run exit here to fits before at end)
      | inr not_before ↦ alighting run exit here to fits (omega arith) at end
    ];
  }
    where
      alighting : (run : Run) (exit : ℕ) (here to : Call) → FitsShape shape run → position ≡ exit → slice_get run.calls position ≡ Some here → IsExit now run exit to → IsNoLater best here.arrival to.arrival (number_at now to.stop)
      alighting run exit here to fits same at end =
          let there : slice_get run.calls position ≡ Some to = rw same end.at in
          let call : here ≡ to = same_Some here to (sym at ∙ there) in
          let own : spot_of to ≡ spot = same_Some (spot_of to) spot (sym (spot_at shape run position to fits there) ∙ spot_is) in
          let may : IsTrue spot.alight = subst (λ (s : Spot). IsTrue s.alight) own end.alights in
          let few : best ≤ number_at now to.stop = subst (λ (s : Spot). IsTrue s.alight → best ≤ number_at now s.stop) (sym own) alights end.alights in
          let reached = end.reached in
          rw call (record { within = omega arith; ends = omega (arith, ints) })

-- ---- the whole loop

lowered_then : (a b c : List ℕ) → IsLowered a b → IsLowered b c → IsLowered a c
lowered_then a b c first then n = let x = first n in let y = then n in omega arith

kept_set : (base count : ℕ) (old place : List ℕ) (k number : ℕ) → base ≤ k → k < base + count → IsKeptOutside base count old place → IsKeptOutside base count old (slice_set place k number)
kept_set base count old place k number low high kept n outside =
    let other : n ≢ k = elim outside [ inl a ↦ omega arith | inr a ↦ omega arith ] in
    get_or-set_other place k n number far other ∙ kept n outside

module _ (now : List ℕ) (shape : ShapeOf) (base : ℕ) where
  pub scanning_begins : (ready place : List ℕ) → IsScanning now shape base (length shape.pattern) far ready ready place place
  scanning_begins ready place = record {
    within = omega arith;
    size = refl;
    ready_size = refl;
    lowered = λ n. omega arith;
    kept = λ n outside. refl;
    left = left_past now shape (length shape.pattern) far (omega arith);
    scanned = record {
      onward = λ p low high. absurd (omega arith);
      boards = λ p s low at. absurd (omega (arith, slice_get_within shape.pattern p s at));
    };
  }

  pub scanning_more : (position hop dwell : ℕ) (spot : Spot) (best onward more : ℕ) (old_ready ready new_ready old_place place : List ℕ)
      → slice_get shape.pattern position ≡ Some spot → slice_get shape.hops position ≡ Some hop → slice_get shape.dwells position ≡ Some dwell
      → base + length shape.pattern ≤ length place
      → (best < far → onward < far) → onward ≤ best + hop
      → (onward < far → more < far) → more ≤ onward + dwell → (IsTrue spot.alight → more ≤ number_at now spot.stop)
      → length new_ready ≡ length ready → IsLowered ready new_ready → IsReadyFor new_ready spot onward
      → IsScanning now shape base (position + 1) best old_ready ready old_place place
      → IsScanning now shape base position more old_ready new_ready old_place (slice_set place (base + position) onward)
  scanning_more position hop dwell spot best onward more old_ready ready new_ready old_place place spot_is hop_is dwell_is room on_within on_most within most alights same low boards s =
      let fits = s.within in
      let rides = departs now shape position hop dwell spot spot_is hop_is dwell_is best onward on_within on_most s.left in
      record {
        within = omega arith;
        size = length-set place (base + position) onward ∙ s.size;
        ready_size = same ∙ s.ready_size;
        lowered = lowered_then old_ready ready new_ready s.lowered low;
        kept = kept_set base (length shape.pattern) old_place place (base + position) onward (omega arith) (omega arith) s.kept;
        left = arrives now shape position hop dwell spot spot_is hop_is dwell_is onward more within most alights rides;
        scanned = record { onward = λ p a b. onwards rides p a b (cases_lt position p); boards = λ p z a at. readies p z a at (cases_lt position p) };
      }
    where
      here : number_at (slice_set place (base + position) onward) (base + position) ≡ onward
      here = let fits = s.within in get_or-set_same place (base + position) onward far (omega arith)

      other : (p : ℕ) → position < p → number_at (slice_set place (base + position) onward) (base + p) ≡ number_at place (base + p)
      other p after = let ne : base + p ≢ base + position = omega arith in get_or-set_other place (base + position) (base + p) onward far ne

      onwards : IsBoundFromDeparture now shape position onward → (p : ℕ) → position ≤ p → p < length shape.pattern → (position < p) ⊎ (p ≤ position) → IsBoundFromDeparture now shape p (number_at (slice_set place (base + position) onward) (base + p))
      onwards rides p a b (inl after) = rw (other p after) (s.scanned.onward p (omega arith) b)
      onwards rides p a b (inr upto) = let same : p ≡ position = omega arith in rw (same, here) rides

      readies : (p : ℕ) (z : Spot) → position ≤ p → slice_get shape.pattern p ≡ Some z → (position < p) ⊎ (p ≤ position) → IsReadyFor new_ready z (number_at (slice_set place (base + position) onward) (base + p))
      readies p z a at (inl after) may = let x = s.scanned.boards p z (omega arith) at may in let y = low z.stop in rw (other p after) (omega arith)
      readies p z a at (inr upto) may = let same : p ≡ position = omega arith in rw (same, here) (subst (λ (x : Spot). IsReadyFor new_ready x onward) (same_Some spot z (sym spot_is ∙ rw same at at)) boards may)

-- ---- a shape of which nothing changed

unchanged_onward : (before now : List ℕ) (shape : ShapeOf) (position seconds : ℕ) → IsUnchanged before now shape → IsBoundFromDeparture before shape position seconds → IsBoundFromDeparture now shape position seconds
unchanged_onward before now shape position seconds same rides = record {
  each = λ run exit here to fits from at end.
      let e : number_at now to.stop ≡ number_at before to.stop = same.each exit (spot_of to) (spot_at shape run exit to fits end.at) in
      rw e (rides.each run exit here to fits from at (record { at = end.at; alights = end.alights; reached = rw (sym e) end.reached }));
}

pub unchanged_scanned : (before now : List ℕ) (shape : ShapeOf) (base : ℕ) (ready place : List ℕ) → IsUnchanged before now shape → IsScannedFrom before shape base 0 ready place → IsScannedFrom now shape base 0 ready place
unchanged_scanned before now shape base ready place same s = record {
  onward = λ p a b. unchanged_onward before now shape p (number_at place (base + p)) same (s.onward p a b);
  boards = s.boards;
}
