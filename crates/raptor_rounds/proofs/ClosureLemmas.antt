-- Where first and further rides are settled, every beginning is: met by a label, or lost.
use Rattle.std.proofs.Common.{◌≡◌, inl, inr, ℕ, ◌+◌, ◌≤◌, max, ℤ, pos, ◌+ℤ◌, ◌≤ℤ◌, List, [], ◌∷◌, length, refl, sym, ◌∙◌, subst, arith, zero-add}
use Rattle.std.proofs.lemmas.Int.{ints}
use Rattle.otp_model.specs.declared.timetable.Call.{Call}
use Rattle.otp_model.specs.declared.timetable.Run.{Run}
use Rattle.otp_model.specs.declared.timetable.Edges.{Edges}
use Rattle.otp_model.specs.declared.journey.Request.{Request}
use Rattle.otp_model.specs.declared.journey.Value.{Value}
use Rattle.otp_model.specs.declared.journey.Leg.{Leg}
use Rattle.otp_model.specs.declared.journey.Leg.TheVariants.{Walk}
use Rattle.otp_model.specs.Beginnings.{Hop, IsHop, IsBeginning, departs, hop_penalty, legs_onto, penalty, walk_penalty}
use Rattle.otp_model.specs.Limits.{least_walk_points}
use Rattle.otp_model.specs.Plane.{IsReached}
use Rattle.otp_model.specs.Journeys.{HasValue, IsTransfer}
use Rattle.otp_model.specs.Whole.{IsNoWorse as IsNoWorseValue, IsOffered}
use Rattle.otp_model.proofs.BeginningLemmas.{split, rides_onto, arrival_onto, departure_onto, cost_onto}
use Rattle.end_bounds.specs.Bounds.{Bounds}
use Rattle.raptor_rounds.specs.RunBounds.{AreRunBounds}
use Rattle.raptor_rounds.specs.Closure.{Entry, End, IsNoWorse, IsMet, IsEnded, IsLostEntry, IsSettled, Reaches, IsClosed, IsValueOf, end_at, entry_of_hops, next_entry}
use Rattle.raptor_rounds.proofs.LostLemmas.{trans_ℤ, same_ℤ, costs_more, lost_worse, lost_more, lost_walk, lost_ride, lost_end}

pub no_worse_same : (e : Entry) → IsNoWorse e e
no_worse_same e = record { same = refl; late = same_ℤ e.departure; few = omega arith; early = same_ℤ e.time; cheap = omega arith }

pub no_worse_then : (a b c : Entry) → IsNoWorse a b → IsNoWorse b c → IsNoWorse a c
no_worse_then a b c x y = record {
  same = x.same ∙ y.same;
  late = trans_ℤ c.departure b.departure a.departure y.late x.late;
  few = omega (arith, x.few, y.few);
  early = trans_ℤ a.time b.time c.time x.early y.early;
  cheap = omega (arith, x.cheap, y.cheap);
}

module _ (r : Request) (b : Bounds) where
  -- what is settled stays so for worse numbers
  pub settled_worse : (labels : Entry → Type 0) (ends : End → Type 0) (e f : Entry) → IsNoWorse e f → IsSettled r b labels ends e → IsSettled r b labels ends f
  settled_worse labels ends e f x s = elim s [
    | inl m ↦ inl (m.0, m.1, no_worse_then m.0 e f m.2 x)
    | inr l ↦ inr (rw (sym x.same) (lost_worse b.far r.rides ends (b.alight e.stop) (b.alight_points e.stop) e.departure f.departure e.rides f.rides e.time f.time e.penalty f.penalty x.late x.few x.early x.cheap l))
  ]

  -- and while labels and ends grow
  pub settled_more : (labels labels' : Entry → Type 0) (ends ends' : End → Type 0) (e : Entry) → ((x : Entry) → labels x → labels' x) → ((f : End) → ends f → ends' f)
      → IsSettled r b labels ends e → IsSettled r b labels' ends' e
  settled_more labels labels' ends ends' e more late s = elim s [
    | inl m ↦ inl (m.0, more m.0 m.1, m.2)
    | inr l ↦ inr (lost_more b.far r.rides ends ends' (b.alight e.stop) (b.alight_points e.stop) e.departure e.rides e.time e.penalty late l)
  ]

-- to wait from an earlier time is in time too
in_time_earlier : (t u d : ℤ) (w : ℕ) → t ≤ℤ u → (u +ℤ pos w) ≤ℤ d → (t +ℤ pos w) ≤ℤ d
in_time_earlier t u d w a b = omega (arith, ints)

-- who comes to the same stop earlier reaches what a later one does
reaches_earlier : (runs : List Run) (edges : Edges) (slack : ℕ) (e : Entry) (at : Call) (h : Hop) → e.stop ≡ at.stop → e.time ≤ℤ at.arrival
    → IsTransfer edges slack at h.board h.walk → IsHop runs h → Reaches runs edges slack e h
reaches_earlier runs edges slack e at h s t x ride = record {
  at = record at { stop = e.stop; arrival = e.time };
  stop_is = refl;
  time_is = refl;
  transfer = record {
    row = x.row;
    row_is = rw s x.row_is;
    edge = x.edge;
    on = x.on;
    to_is = x.to_is;
    walk_is = x.walk_is;
    in_time = in_time_earlier e.time at.arrival h.board.departure (max (h.walk + slack) x.edge.minimum) t x.in_time;
  };
  ride = ride;
}

module _ (runs : List Run) (edges : Edges) (r : Request) (b : Bounds) (labels : Entry → Type 0) (ends : End → Type 0) (bounds : AreRunBounds runs edges r b) (moments : ℤ → Type 0)
    (closed : IsClosed runs edges r b labels ends moments) where
  pub settled : (h : Hop) (hops : List Hop) → IsBeginning runs edges r (h ∷ hops) → moments (departs (h ∷ hops)) → length (h ∷ hops) ≤ r.rides → IsSettled r b labels ends (entry_of_hops r h hops)
  settled h [] w at few = rw zero-add (closed.starts h w.0 w.1 at)
  settled h (g ∷ hops) w at few = elim (settled g hops w.2 at (omega arith)) [ inl m ↦ from_met m | inr l ↦ from_lost l ]
    where
      from_met : IsMet labels (entry_of_hops r g hops) → IsSettled r b labels ends (entry_of_hops r h (g ∷ hops))
      from_met m =
          let x = m.2 in
          let rides = x.few in
          let cheap = x.cheap in
          let step = closed.scanned m.0 m.1 (omega arith) h (reaches_earlier runs edges r.slack m.0 g.alight h x.same x.early w.0 w.1) in
          settled_worse r b labels ends (next_entry r m.0 h) (entry_of_hops r h (g ∷ hops))
          (record { same = refl; late = x.late; few = omega arith; early = same_ℤ h.alight.arrival; cheap = omega arith }) step

      from_lost : IsLostEntry r b ends (entry_of_hops r g hops) → IsSettled r b labels ends (entry_of_hops r h (g ∷ hops))
      from_lost l =
          let ride = w.1 in
          let d = departs (g ∷ hops) in
          let k = length (g ∷ hops) in
          let p = penalty r (g ∷ hops) in
          let next = lost_walk runs edges r b bounds ends g.alight h.board h.walk d k p (omega arith) w.0 l in
          let lost = lost_ride runs edges r b bounds ends ride.run ride.from ride.to h.name h.board h.alight d (k + 1) (p + hop_penalty r h.walk) (omega arith) ride.on ride.is next in
          inr (lost_worse b.far r.rides ends _ _ d d (k + 1) (length (h ∷ g ∷ hops)) h.alight.arrival h.alight.arrival _ _ (same_ℤ d) (omega arith) (same_ℤ h.alight.arrival) (omega arith) lost)

  -- some end is as good as a beginning and the egress
  ended : (h : Hop) (hops : List Hop) (egress : ℕ) → length (h ∷ hops) ≤ r.rides → IsReached edges r.to h.alight.stop egress → IsSettled r b labels ends (entry_of_hops r h hops)
      → (let e = end_at r (entry_of_hops r h hops) egress in IsEnded ends e.departure e.rides e.arrival e.cost)
  ended h hops egress few reached s = elim s [ inl m ↦ from_met m | inr l ↦ lost_end runs edges r b bounds ends h.alight.stop egress _ _ _ _ few reached l ]
    where
      from_met : IsMet labels (entry_of_hops r h hops) → (let e = end_at r (entry_of_hops r h hops) egress in IsEnded ends e.departure e.rides e.arrival e.cost)
      from_met m =
          let x = m.2 in
          let early : (m.0.time +ℤ pos egress) ≤ℤ (h.alight.arrival +ℤ pos egress) = let y = x.early in omega (arith, ints) in
          let cheap = x.cheap in
          record {
            by = end_at r m.0 egress;
            on = closed.ended m.0 egress m.1 (rw x.same reached);
            late = x.late;
            few = x.few;
            early = early;
            cheap = costs_more m.0.departure (departs (h ∷ hops)) (m.0.time +ℤ pos egress) (h.alight.arrival +ℤ pos egress) (m.0.penalty + walk_penalty r egress) _ x.late early (omega arith);
          }

-- the numbers of a journey by its beginning
value_of_split : (r : Request) (h : Hop) (hops : List Hop) (egress : ℕ) (legs : List Leg) (v : Value) → least_walk_points ≤ r.walk_points
    → legs_onto (h ∷ hops) (Walk egress ∷ []) ≡ legs → HasValue r legs v → IsValueOf (end_at r (entry_of_hops r h hops) egress) v
value_of_split r h hops egress legs v points e has =
    let on = subst (λ (z : List Leg). HasValue r z v) (sym e) has in
    record {
      departure = on.departure ∙ departure_onto h hops (Walk egress ∷ []);
      arrival = on.arrival ∙ arrival_onto h hops (pos 0) (Walk egress ∷ []);
      rides = on.rides ∙ rides_onto (h ∷ hops) (Walk egress ∷ []) ∙ omega arith;
      cost = on.cost ∙ cost_onto r h hops egress points;
    }

-- an end that is no worse in its numbers has a value that is no worse
value_no_worse : (g : End) (v : Value) (ends : End → Type 0) → IsValueOf g v → (m : IsEnded ends g.departure g.rides g.arrival g.cost) → (w : Value) → IsValueOf m.by w → IsNoWorseValue w v
value_no_worse g v ends x m w y =
    let late = m.late in
    let early = m.early in
    let few = m.few in
    let cheap = m.cheap in
    let d = x.departure in let a = x.arrival in let k = x.rides in let c = x.cost in
    let d' = y.departure in let a' = y.arrival in let k' = y.rides in let c' = y.cost in
    record { departs = rw (d, d') late; arrives = rw (a, a') early; rides = omega arith; cost = omega (arith, ints) }

module _ (runs : List Run) (edges : Edges) (r : Request) (b : Bounds) (labels : Entry → Type 0) (ends : End → Type 0) (points : least_walk_points ≤ r.walk_points) (bounds : AreRunBounds runs edges r b)
    (moments : ℤ → Type 0) (closed : IsClosed runs edges r b labels ends moments) where
  -- the value of some end is no worse than that of a journey that departs at one of the moments
  pub dominated : (v : Value) → IsOffered runs edges r v → moments v.departure → (f : End) × ends f × ((w : Value) → IsValueOf f w → IsNoWorseValue w v)
  dominated v o at =
      let s = split runs edges r o.legs o.journey in
      let numbers = value_of_split r s.last s.rest s.egress o.legs v points s.same o.has in
      let m = ended runs edges r b labels ends bounds moments closed s.last s.rest s.egress s.few s.reached
      (settled runs edges r b labels ends bounds moments closed s.last s.rest s.begins (subst moments numbers.departure at) s.few) in
      (m.by, m.on, value_no_worse (end_at r (entry_of_hops r s.last s.rest) s.egress) v ends numbers m)
