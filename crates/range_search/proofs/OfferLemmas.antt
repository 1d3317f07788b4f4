-- What a search offers is enough.
use Rattle.std.proofs.Common.{◌≡◌, inl, inr, ℕ, ◌+◌, ◌≤◌, ◌<◌, ℤ, pos, ◌-ℤ◌, List, [], ◌∷◌, ◌++◌, Some, length, get_or, take, refl, sym, ap, subst, ◌∙◌, arith}
use Rattle.std.specs.List.{All, Any, Contains, slice_get}
use Rattle.std.proofs.lemmas.List.{get_or_default, take_more}
use Rattle.std.proofs.lemmas.List.Elements.{All-contains, All-nil, All-push, All-weaker, Contains-append_left, Contains-push, Contains-push_cases}
use Rattle.std.proofs.lemmas.Option.{get_or_from_slice_get, slice_get-get_or, slice_get_within}
use Rattle.otp_base.specs.Adds.{FromSome}
use Rattle.otp_model.specs.Beginnings.{Hop, IsHop}
use Rattle.otp_model.specs.Journeys.{IsJourney, departure_of}
use Rattle.otp_model.specs.Limits.{least_walk_points}
use Rattle.otp_model.specs.Plane.{IsReached}
use Rattle.otp_model.specs.Whole.{IsInWindow, IsNoWorse, IsOffered}
use Rattle.otp_model.specs.declared.journey.Found.{Found}
use Rattle.otp_model.specs.declared.journey.Leg.{Leg}
use Rattle.otp_model.specs.declared.journey.Leg.TheVariants.{Walk, Ride}
use Rattle.otp_model.specs.declared.journey.Request.{Request}
use Rattle.otp_model.specs.declared.journey.Value.{Value}
use Rattle.otp_model.specs.declared.timetable.Edges.{Edges}
use Rattle.otp_model.specs.declared.timetable.Run.{Run}
use Rattle.pareto_front.specs.Front.{AreEnough}
use Rattle.trip_patterns.specs.Lanes.{LaneOf}
use Rattle.walk_table.specs.Reaches.{AreReached}
use Rattle.walk_table.specs.declared.reach.Reach.{Reach}
use Rattle.raptor_rounds.specs.declared.node.Final.{Final}
use Rattle.raptor_rounds.specs.declared.state.RoundState.{RoundState}
use Rattle.raptor_rounds.specs.Labels.{IsFinal, IsFound}
use Rattle.raptor_rounds.specs.Moments.{AreMoments, IsMomentIn}
use Rattle.raptor_rounds.specs.States.{departures_of, finals_of}
use Rattle.raptor_rounds.specs.Searched.{IsSearched}
use Rattle.range_search.specs.Searches.{AreOffers, AreSearched, IsKept, IsOfferOf}

-- ---- offers

module _ (runs : List Run) (blocks : List (List LaneOf)) (s : RoundState) where
  pub offers_none : (finals : List Final) (offers : List Found) → offers ≡ [] → AreOffers runs blocks s (take 0 finals) offers
  offers_none finals offers none = rw none (record {
    only = All-nil (FromSome (IsOfferOf runs blocks s) (take 0 finals));
    has = λ f on. absurd (omega (arith, on.1));
  })

  pub offers_more : (finals : List Final) (i : ℕ) (f : Final) (offers : List Found) (offer : Found) → i < length finals → f ≡ get_or finals i f → AreOffers runs blocks s (take i finals) offers
      → IsOfferOf runs blocks s f offer → AreOffers runs blocks s (take (i + 1) finals) (offers ++ offer ∷ [])
  offers_more finals i f offers offer less read are is = rw more (record {
    only = All-push (FromSome (IsOfferOf runs blocks s) (take i finals ++ f ∷ [])) offers offer
        (All-weaker (FromSome (IsOfferOf runs blocks s) (take i finals)) (FromSome (IsOfferOf runs blocks s) (take i finals ++ f ∷ [])) (λ o q. (q.0, Contains-append_left (take i finals) (f ∷ []) q.0 q.1, q.2)) offers are.only)
        (f, Contains-push (take i finals) f, is);
    has = λ g on. elim (Contains-push_cases (take i finals) f g on) [
      | inl before ↦ let h = are.has g before in (h.0, Contains-append_left offers (offer ∷ []) h.0 h.1, h.2)
      | inr same ↦ (offer, Contains-push offers offer, is.value_is ∙ ap (λ (z : Final). z.value) same)
    ];
  })
    where
      more : take (i + 1) finals ≡ take i finals ++ f ∷ []
      more = take_more finals i f less ∙ ap (λ (z : Final). take i finals ++ z ∷ []) (sym read)

  -- the same, where the final is read with a default
  pub offers_more_at : (finals : List Final) (i : ℕ) (d : Final) (offers : List Found) (offer : Found) → i < length finals → AreOffers runs blocks s (take i finals) offers
      → IsOfferOf runs blocks s (get_or finals i d) offer → AreOffers runs blocks s (take (i + 1) finals) (offers ++ offer ∷ [])
  offers_more_at finals i d offers offer less are is = offers_more finals i (get_or finals i d) offers offer less (get_or_default finals i d (get_or finals i d) less) are is

pub kept_at : (blocks : List (List LaneOf)) (s : RoundState) (finals : List Final) (i : ℕ) (d : Final) → finals ≡ finals_of s → All (IsKept blocks s) (finals_of s) → i < length finals → IsKept blocks s (get_or finals i d)
kept_at blocks s finals i d same kept less = subst (λ (xs : List Final). All (IsKept blocks s) xs) (sym same) kept i d less

-- ---- what a search found

final_seen : (runs : List Run) (blocks : List (List LaneOf)) (edges : Edges) (r : Request) (s : RoundState) → IsSearched runs blocks edges r s → (f : Final) → Contains (finals_of s) f → Contains (departures_of s) f.value.departure
final_seen runs blocks edges r s is f on =
    let made = All-contains (IsFinal r s.aim.egress.items s.arena.items) (finals_of s) f is.open_is.finals_are on in
    subst (Contains (departures_of s)) (sym (ap (λ (z : Final). z.value.departure) made.is.1)) (is.seen f.label made.node made.node_is)

pub finals_kept : (runs : List Run) (blocks : List (List LaneOf)) (edges : Edges) (r : Request) (s : RoundState) → IsSearched runs blocks edges r s → All (IsKept blocks s) (finals_of s)
finals_kept runs blocks edges r s is =
    All-weaker (IsFinal r s.aim.egress.items s.arena.items) (IsKept blocks s) (λ f made. let l = is.sound f.label made.node made.node_is in (l.last ∷ l.rest, l.chain)) (finals_of s) is.open_is.finals_are

-- the first ride of a journey
pub record IsFirstOf (runs : List Run) (edges : Edges) (r : Request) (legs : List Leg) : Type 0 where
  pub hop : Hop
  pub reached : IsReached edges r.from hop.board.stop hop.walk
  pub ride : IsHop runs hop
  pub departure : departure_of legs ≡ hop.board.departure -ℤ pos hop.walk

first_of : (runs : List Run) (edges : Edges) (r : Request) (legs : List Leg) → IsJourney runs edges r legs → IsFirstOf runs edges r legs
first_of runs edges r (Walk first ∷ Ride name board alight ∷ Walk next ∷ legs) j =
    record { hop = record { walk = first; name = name; board = board; alight = alight }; reached = j.0; ride = j.1; departure = refl }
first_of runs edges r (Walk first ∷ Ride name board alight ∷ Ride n b a ∷ legs) j = absurd j
first_of runs edges r (Walk first ∷ Ride name board alight ∷ []) j = absurd j
first_of runs edges r (Walk first ∷ Walk seconds ∷ legs) j = absurd j
first_of runs edges r (Walk first ∷ []) j = absurd j
first_of runs edges r (Ride name board alight ∷ legs) j = absurd j
first_of runs edges r [] j = absurd j

module _ (runs : List Run) (blocks : List (List LaneOf)) (edges : Edges) (r : Request) (access : List Reach) (moments : List ℤ) (s : RoundState) (offers : List Found) (points : least_walk_points ≤ r.walk_points)
    (reached : AreReached edges r.from access) (are : AreMoments runs r access moments) (searched : AreSearched runs blocks edges r moments 0 s) (offered : AreOffers runs blocks s (finals_of s) offers) where
  found_of : (o : Found) → Contains offers o → IsFound runs edges r o.value o.journey.legs
  found_of o on =
      let q = All-contains (FromSome (IsOfferOf runs blocks s) (finals_of s)) offers o offered.only on in
      (q.2).found edges r points searched.searched q.1

  in_window : (o : Found) → Contains offers o → IsInWindow r o.value
  in_window o on =
      let q = All-contains (FromSome (IsOfferOf runs blocks s) (finals_of s)) offers o offered.only on in
      let f = q.0 in
      let seen = (searched.seen f.value.departure).0 (final_seen runs blocks edges r s searched.searched f q.1) in
      let at = All-contains (IsMomentIn r) moments f.value.departure are.in_window (seen.0, slice_get_within moments seen.0 f.value.departure seen.2, get_or_from_slice_get moments seen.0 f.value.departure f.value.departure seen.2) in
      subst (IsInWindow r) (sym (q.2).value_is) (record { not_before = at.not_before; not_after = at.not_after })

  seen_of : (v : Value) → IsOffered runs edges r v → Contains (departures_of s) v.departure
  seen_of v o =
      let first = first_of runs edges r o.legs o.journey in
      let h = first.hop in
      let departs : v.departure ≡ h.board.departure -ℤ pos h.walk = (o.has).departure ∙ first.departure in
      let window = o.in_window in
      let at : IsMomentIn r v.departure = record { not_before = window.not_before; not_after = window.not_after } in
      let on = are.whole h ((reached (record { stop = h.board.stop; seconds = h.walk })).1 first.reached) first.ride (subst (IsMomentIn r) departs at) in
      let here : Contains moments v.departure = subst (Contains moments) (sym departs) on in
      (searched.seen v.departure).1 (here.0, omega arith, slice_get_of moments v.departure here)
    where
      slice_get_of : (xs : List ℤ) (x : ℤ) → (on : Contains xs x) → slice_get xs on.0 ≡ Some x
      slice_get_of xs x on = slice_get-get_or xs on.0 x on.1 ∙ ap (λ (z : ℤ). Some z) on.2

  met : (v : Value) → IsOffered runs edges r v → Any (λ (found : Found). IsNoWorse found.value v) offers
  met v o =
      let best = searched.finals v o (seen_of v o) in
      let f = best.1 in
      let h = offered.has f (best.0, best.2, best.3) in
      (h.1.0, h.0, h.1.1, h.1.2, subst (λ (w : Value). IsNoWorse w v) (sym h.2) best.4)

  pub offers_enough : AreEnough runs edges r offers
  offers_enough = record {
    journey = λ o on. (found_of o on).journey;
    value = λ o on. (found_of o on).has;
    in_window = in_window;
    met = met;
  }
