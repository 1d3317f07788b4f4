-- Round by round: what is kept, and what all rounds for a departure leave.
use Rattle.std.proofs.Common.{◌≡◌, inl, inr, ℕ, ◌+◌, ◌*◌, ◌≤◌, ◌<◌, ℤ, pos, ◌+ℤ◌, ◌-ℤ◌, ◌≤ℤ◌, ◌<ℤ◌, List, [], ◌∷◌, ◌++◌, length, refl, sym, ap, subst, ◌∙◌, arith, unsigned_abs}
use Rattle.std.specs.List.{All, Contains}
use Rattle.std.proofs.lemmas.Bool.{cases_lt}
use Rattle.std.proofs.lemmas.Int.{ints}
use Rattle.std.proofs.lemmas.List.Elements.{All-contains, Contains-append_left, Contains-push, Contains-push_cases}
use Rattle.std.proofs.lemmas.Option.{slice_get_within}
use Rattle.otp_base.specs.Adds.{FromBelow, FromSome}
use Rattle.otp_model.specs.Beginnings.{Hop, IsHop, cost_at, walk_penalty}
use Rattle.otp_model.specs.Plane.{IsReached}
use Rattle.otp_model.specs.Ranges.{CanSearch}
use Rattle.otp_model.specs.declared.journey.Request.{Request}
use Rattle.otp_model.specs.declared.timetable.Edges.{Edges}
use Rattle.otp_model.specs.declared.timetable.Run.{Run}
use Rattle.trip_patterns.specs.Lanes.{LaneOf}
use Rattle.trip_patterns.specs.Timetables.{StandsFor}
use Rattle.walk_table.specs.Reaches.{AreReached}
use Rattle.walk_table.specs.declared.reach.Reach.{Reach}
use Rattle.raptor_rounds.specs.declared.marks.Marks.{Marks}
use Rattle.raptor_rounds.specs.declared.node.Final.{Final}
use Rattle.raptor_rounds.specs.declared.node.Node.{Node}
use Rattle.raptor_rounds.specs.declared.state.RoundState.{RoundState}
use Rattle.raptor_rounds.specs.Closure.{Entry, End, IsScanned, IsValueOf, end_at, first_entry}
use Rattle.raptor_rounds.specs.Labels.{InArena, InFinals, IsLabelOf, end_of, entry_of, final_by}
use Rattle.raptor_rounds.specs.Marks.{AreMarks}
use Rattle.raptor_rounds.specs.Rides.{IsNodeInRange, IsRiddenOn, ready_at, ready_by}
use Rattle.raptor_rounds.specs.Scans.{GoesOnAt, IsNext, IsStartedBy, StartsBy}
use Rattle.raptor_rounds.specs.States.{AreFinalsEnough, IsBefore, IsOfRound, IsOpen, IsRound, IsScannedBelow, IsStateSettled, Saw, SawDepartureOf, Settles, bounds_of}
use Rattle.raptor_rounds.specs.Searched.{IsLastRound, IsSearched}
use Rattle.raptor_rounds.proofs.BlockLemmas.{run_bounds}
use Rattle.raptor_rounds.proofs.ClosureLemmas.{dominated}
use Rattle.raptor_rounds.proofs.LabelLemmas.{each_grown, label_kept, label_next, label_started}
use Rattle.raptor_rounds.proofs.SettleLemmas.{still_settled}

-- ---- a label that came

started_numbers : (blocks : List (List LaneOf)) (r : Request) (d : ℤ) (starts : List Reach) (n : Node) → FromSome (IsStartedBy blocks r d) starts n → (n.departure ≡ d) × (n.rides ≡ 1)
started_numbers blocks r d starts n q =
    let p = q.2 in
    let x : IsRiddenOn p.2.0 (ready_at r d q.0) n.block n.lane n = p.2.2 in
    (ap (λ (e : Entry). e.departure) x.entry_is, ap (λ (e : Entry). e.rides) x.entry_is)

next_numbers : (blocks : List (List LaneOf)) (edges : Edges) (r : Request) (arena : List Node) (first : ℕ) (n : Node) → (q : IsNext blocks edges r arena first n) → (n.departure ≡ q.from.departure) × (n.rides ≡ q.from.rides + 1)
next_numbers blocks edges r arena first n q =
    let p = q.next.2.2 in
    let x : IsRiddenOn p.2.0 (ready_by r q.i q.from q.next.2.0) n.block n.lane n = p.2.2 in
    (ap (λ (e : Entry). e.departure) x.entry_is, ap (λ (e : Entry). e.rides) x.entry_is)

module _ (runs : List Run) (blocks : List (List LaneOf)) (stands : StandsFor blocks runs) (edges : Edges) (r : Request) (d : ℤ) where
  -- ---- the first round

  -- `pushed` is the state with the departure, and `new` that with the first rides
  module _ (starts : List Reach) (old pushed new : RoundState) (reached : AreReached edges r.from starts) (was : IsSearched runs blocks edges r old)
      (arena_is : pushed.arena ≡ old.arena) (finals_are : pushed.finals ≡ old.finals) (aim_is : pushed.aim ≡ old.aim) (departures_are : pushed.departures.items ≡ old.departures.items ++ d ∷ [])
      (s : Settles r d (FromSome (StartsBy runs r d) starts) (FromSome (IsStartedBy blocks r d) starts) pushed new) where
    all_departures : new.departures.items ≡ old.departures.items ++ d ∷ []
    all_departures = s.departures_are ∙ departures_are

    saw_old : (t : ℤ) → Saw old t → Saw new t
    saw_old t h = rw all_departures (Contains-append_left old.departures.items (d ∷ []) t h)

    saw_new : Saw new d
    saw_new = rw all_departures (Contains-push old.departures.items d)

    old_settled : (e : Entry) → IsStateSettled r old e → IsStateSettled r new e
    old_settled e h = still_settled r d (FromSome (StartsBy runs r d) starts) (FromSome (IsStartedBy blocks r d) starts) pushed new e s (rw (arena_is, finals_are, aim_is) h)

    start_settled : (h : Hop) → IsReached edges r.from h.board.stop h.walk → IsHop runs h → h.board.departure -ℤ pos h.walk ≡ d → IsStateSettled r new (first_entry r h)
    start_settled h from hop at =
        let reach : Reach = record { stop = h.board.stop; seconds = h.walk } in
        s.settled (first_entry r h) (
          reach,
          (reached reach).1 from,
          record {
            hop = h;
            ride = hop;
            stop_is = refl;
            in_time = record { not_before = in_time h.board.departure h.walk at; until = until h.board.departure h.walk at };
            entry_is = ap (λ (t : ℤ). record { stop = h.alight.stop; departure = t; rides = 1; time = h.alight.arrival; penalty = (first_entry r h).penalty }) at;
          },
        )
      where
        in_time : (t : ℤ) (w : ℕ) → t -ℤ pos w ≡ d → (d +ℤ pos w) ≤ℤ t
        in_time t w e = omega (arith, ints, e)

        until : (t : ℤ) (w : ℕ) → t -ℤ pos w ≡ d → t ≤ℤ (d +ℤ pos w)
        until t w e = omega (arith, ints, e)

    before : (t : ℤ) → d <ℤ t → d ≤ℤ t
    before t h = omega (arith, ints, h)

    pub marks_first : All (IsBefore d) (old.departures.items) → AreMarks runs r new d old.marks
    marks_first later = record {
      kept = record {
        bags_are = was.marks.bags_are;
        seen = λ i n h. saw_old n.departure (was.marks.seen i n h);
        boarded = λ i n h hop can. old_settled _ (was.marks.boarded i n h hop can);
      };
      late = λ i n h. before n.departure (All-contains (IsBefore d) old.departures.items n.departure later (was.marks.seen i n h));
      saw = saw_new;
    }

    pub round_first : IsRound runs blocks edges r d new.departures.items (length old.arena.items) 1 new
    round_first = record {
      open_is = s.open_is;
      egress = rw (s.aim_is, aim_is) was.egress;
      bounds = rw (s.aim_is, aim_is) was.bounds;
      departures_are = refl;
      saw = saw_new;
      sound = each_grown r d _ _ pushed new (IsLabelOf runs blocks edges r new.arena.items) s
          (λ i n h. label_kept runs blocks edges r pushed.arena.items new.arena.items i n s.kept (rw arena_is (was.sound i n (rw arena_is at h))))
          (λ i n after h p. label_started runs blocks stands edges r d starts new.arena.items i n reached h p);
      seen = each_grown r d _ _ pushed new (SawDepartureOf new) s
          (λ i n h. saw_old n.departure (was.seen i n (rw arena_is at h)))
          (λ i n after h p. subst (Saw new) (sym (started_numbers blocks r d starts n p).0) saw_new);
      round = each_grown r d _ _ pushed new (IsOfRound d (length old.arena.items) 1) s
          (λ i n h. let inside = slice_get_within old.arena.items i n (rw arena_is at h) in record { departs = λ after. absurd (omega (arith, inside, after)); rides_are = λ after. absurd (omega (arith, inside, after)) })
          (λ i n after h p. record { departs = λ k. (started_numbers blocks r d starts n p).0; rides_are = λ k. (started_numbers blocks r d starts n p).1 });
      starts = λ h from hop at. elim (Contains-push_cases old.departures.items d (h.board.departure -ℤ pos h.walk) (rw all_departures at at)) [
        | inl seen ↦ old_settled (first_entry r h) (was.closed.starts h from hop seen)
        | inr same ↦ start_settled h from hop (sym same)
      ];
      scanned = each_grown r d _ _ pushed new (IsScannedBelow runs edges r new (length old.arena.items)) s
          (λ i n h below few hop reaches. old_settled _ (was.closed.scanned (entry_of n) (i, n, rw arena_is at h, refl) few hop reaches))
          (λ i n after h p below few. absurd (omega (arith, below, subst (λ (xs : List Node). length xs ≤ i) (ap (λ v. v.items) arena_is) after)));
    }

  -- ---- one round more

  pub round_more : (departures : List ℤ) (first rides : ℕ) (old new : RoundState) → IsRound runs blocks edges r d departures first rides old
      → Settles r d (FromBelow (GoesOnAt runs edges r old.arena.items first) (length old.arena.items)) (IsNext blocks edges r old.arena.items first) old new
      → IsRound runs blocks edges r d departures (length old.arena.items) (rides + 1) new
  round_more departures first rides old new was s = record {
    open_is = s.open_is;
    egress = rw s.aim_is was.egress;
    bounds = rw s.aim_is was.bounds;
    departures_are = s.departures_are ∙ was.departures_are;
    saw = more d was.saw;
    sound = each_grown r d _ _ old new (IsLabelOf runs blocks edges r new.arena.items) s
        (λ i n h. label_kept runs blocks edges r old.arena.items new.arena.items i n s.kept (was.sound i n h))
        (λ i n after h p. label_next runs blocks stands edges r old.arena.items new.arena.items first i n s.kept was.sound after h p);
    seen = each_grown r d _ _ old new (SawDepartureOf new) s
        (λ i n h. more n.departure (was.seen i n h))
        (λ i n after h p. subst (Saw new) (sym (next_departs n p)) (more d was.saw));
    round = each_grown r d _ _ old new (IsOfRound d (length old.arena.items) (rides + 1)) s
        (λ i n h. let inside = slice_get_within old.arena.items i n h in record { departs = λ after. absurd (omega (arith, inside, after)); rides_are = λ after. absurd (omega (arith, inside, after)) })
        (λ i n after h p. record { departs = λ k. next_departs n p; rides_are = λ k. next_rides n p });
    starts = λ h from hop at. still (first_entry r h) (was.starts h from hop (rw s.departures_are at at));
    scanned = each_grown r d _ _ old new (IsScannedBelow runs edges r new (length old.arena.items)) s
        (λ i n h below few hop reaches. elim (cases_lt i first) [
          | inl before ↦ still _ (was.scanned i n h before few hop reaches)
          | inr after ↦ s.settled _ (i, below, (after, (n, h, (hop, reaches, refl))))
        ])
        (λ i n after h p below few. absurd (omega (arith, after, below)));
  }
    where
      more : (t : ℤ) → Saw old t → Saw new t
      more t h = rw s.departures_are h

      still : (e : Entry) → IsStateSettled r old e → IsStateSettled r new e
      still e h = still_settled r d (FromBelow (GoesOnAt runs edges r old.arena.items first) (length old.arena.items)) (IsNext blocks edges r old.arena.items first) old new e s h

      next_departs : (n : Node) → IsNext blocks edges r old.arena.items first n → n.departure ≡ d
      next_departs n p = (next_numbers blocks edges r old.arena.items first n p).0 ∙ (was.round p.i p.from p.from_is).departs p.after

      next_rides : (n : Node) → IsNext blocks edges r old.arena.items first n → n.rides ≡ rides + 1
      next_rides n p = (next_numbers blocks edges r old.arena.items first n p).1 ∙ ap (λ (k : ℕ). k + 1) ((was.round p.i p.from p.from_is).rides_are p.after)

-- ---- all rounds

-- the final of a label and an egress has their numbers
cost_of_final : (d t : ℤ) (w p q : ℕ) → d ≤ℤ t → pos (100 * unsigned_abs ((t +ℤ pos w) -ℤ d) + (p + q)) ≡ cost_at d (t +ℤ pos w) (p + q)
cost_of_final d t w p q forward = go (t +ℤ pos w) (later t w forward)
  where
    later : (t : ℤ) (w : ℕ) → d ≤ℤ t → d ≤ℤ (t +ℤ pos w)
    later t w h = omega (arith, ints, h)

    go : (u : ℤ) → d ≤ℤ u → pos (100 * unsigned_abs (u -ℤ d) + (p + q)) ≡ cost_at d u (p + q)
    go u h = grind (arith, ints)

pub final_end : (r : Request) (i : ℕ) (n : Node) (reach : Reach) → IsNodeInRange r n → end_of (final_by r i n reach) ≡ end_at r (entry_of n) reach.seconds
final_end r i n reach range =
    let cost = cost_of_final n.departure n.time reach.seconds n.penalty (walk_penalty r reach.seconds) range.forward in
    λ k. record { departure = n.departure; arrival = n.time +ℤ pos reach.seconds; rides = n.rides; cost = cost k }

module _ (runs : List Run) (blocks : List (List LaneOf)) (edges : Edges) (r : Request) where
  -- the state that takes its marks back
  open_with : (s : RoundState) (marks : Marks) → IsOpen r s → IsOpen r (record s { marks = marks })
  open_with s marks o = record { bags_are = o.bags_are; covered = o.covered; in_range = o.in_range; ended = o.ended; finals_are = o.finals_are; fronts = o.fronts }

  pub searched_after : (d : ℤ) (departures : List ℤ) (s : RoundState) (marks : Marks) → IsLastRound runs blocks edges r d departures s → AreMarks runs r s d marks → IsSearched runs blocks edges r (record s { marks = marks })
  searched_after d departures s marks last kept = record {
    open_is = open_with s marks round.open_is.open_is;
    egress = round.egress;
    bounds = round.bounds;
    sound = round.sound;
    seen = round.seen;
    closed = record { starts = round.starts; scanned = scanned; ended = ended };
    marks = record { bags_are = kept.kept.bags_are; seen = kept.kept.seen; boarded = kept.kept.boarded };
  }
    where
      round : IsRound runs blocks edges r d departures last.first last.rides s
      round = last.round

      scanned : (e : Entry) → InArena s.arena.items e → e.rides < r.rides → IsScanned runs edges r (bounds_of s) (InArena s.arena.items) (InFinals s.finals.items) e
      scanned e on few = elim (cases_lt on.0 last.first) [
        | inl below ↦ subst (IsScanned runs edges r (bounds_of s) (InArena s.arena.items) (InFinals s.finals.items)) on.3 (round.scanned on.0 on.1 on.2 below (subst (λ (x : Entry). x.rides < r.rides) (sym on.3) few))
        | inr after ↦ let count = (round.round on.0 on.1 on.2).rides_are after in let few' = subst (λ (x : Entry). x.rides < r.rides) (sym on.3) few in absurd (omega (arith, count, few', last.all))
      ]

      ended : (e : Entry) (egress : ℕ) → InArena s.arena.items e → IsReached edges r.to e.stop egress → InFinals s.finals.items (end_at r e egress)
      ended e egress on reached =
          let reach : Reach = record { stop = e.stop; seconds = egress } in
          let stop : e.stop ≡ (on.1).stop = sym (ap (λ (x : Entry). x.stop) on.3) in
          let open_is = round.open_is.open_is in (
            final_by r on.0 on.1 reach,
            open_is.ended on.0 on.1 on.2 reach ((round.egress reach).1 reached) stop,
            final_end r on.0 on.1 reach (open_is.in_range on.0 on.1 on.2) ∙ ap (λ (x : Entry). end_at r x egress) on.3,
          )

  pub finals_enough : StandsFor blocks runs → (s : RoundState) → CanSearch runs edges r → IsSearched runs blocks edges r s → AreFinalsEnough runs edges r s
  finals_enough stands s can is v offered at =
      let f = dominated runs edges r (bounds_of s) (InArena s.arena.items) (InFinals s.finals.items) can.numbers.walk_points.0 (run_bounds blocks runs stands edges r (bounds_of s) can.timely is.bounds) (Saw s) is.closed v offered at in
      let final : Final = (f.1).0 in
      let on : Contains s.finals.items final = (f.1).1 in
      let same : end_of final ≡ f.0 = (f.1).2 in
      (on.0, final, on.1, on.2, f.2 final.value (subst (λ (e : End). IsValueOf e final.value) same (record { departure = refl; arrival = refl; rides = refl; cost = refl })))
