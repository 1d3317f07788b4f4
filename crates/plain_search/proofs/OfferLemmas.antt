-- What is offered are all journeys.
use Rattle.std.proofs.Common.{arith, ◌≡◌, ◌↔◌, ℕ, ℤ, pos, ◌+◌, ◌*◌, ◌<◌, ◌≤◌, ◌+ℤ◌, ◌≤ℤ◌, List, [], ◌∷◌, length, get_or, refl, sym, subst, ◌∙◌}
use Rattle.std.specs.List.{All, Contains}
use Rattle.std.proofs.lemmas.Int.{ints}
use Rattle.std.proofs.lemmas.List.Elements.{All-cons, All-nil, All-contains, Contains-get_or}
use Rattle.std.proofs.lemmas.Option.{slice_get_within, get_or_from_slice_get}
use Rattle.otp_base.specs.Adds.{Adds, FromSome, FromBelow}
use Rattle.otp_base.proofs.AddsLemmas.{adds_as, adds_more_below, Contains-adds}
use Rattle.otp_model.specs.declared.run_name.RunName.{RunName}
use Rattle.otp_model.specs.declared.timetable.Run.{Run}
use Rattle.otp_model.specs.declared.timetable.Call.{Call}
use Rattle.otp_model.specs.declared.timetable.Edges.{Edges}
use Rattle.otp_model.specs.declared.journey.Request.{Request}
use Rattle.otp_model.specs.declared.journey.Value.{Value}
use Rattle.otp_model.specs.declared.journey.Found.{Found}
use Rattle.otp_model.specs.declared.journey.Leg.{Leg}
use Rattle.otp_model.specs.declared.journey.Leg.TheVariants.{Walk, Ride as RideLeg}
use Rattle.otp_model.specs.Plane.{IsReached}
use Rattle.otp_model.specs.Journeys.{Follows, HasValue, IsJourney, IsRide, arrival_after, rides_of}
use Rattle.otp_model.specs.Ranges.{IsLegInRange, IsTime, IsTimely}
use Rattle.otp_model.specs.Whole.{IsInWindow}
use Rattle.otp_model.proofs.Values.{no_worse_itself, same_value}
use Rattle.pareto_front.specs.Front.{AreEnough}
use Rattle.walk_table.specs.declared.reach.Reach.{Reach}
use Rattle.walk_table.specs.Reaches.{AreReached}
use Rattle.plain_search.specs.declared.rides.Ride.{Ride}
use Rattle.plain_search.specs.Rides.{IsRideAmong}
use Rattle.plain_search.specs.Tails.{IsLastTail, IsLongerFrom, IsTailOf}
use Rattle.plain_search.specs.Offers.{Boards, IsOffer, IsOfferBy, IsOfferWith, IsValued}
use Rattle.plain_search.proofs.TailLemmas.{tail_from_last, last_from_tail, tail_from_longer, longer_from_tail}

-- ---- the one offer of a walk and a tail

-- legs have one value
pub one_value : (r : Request) (legs : List Leg) (v w : Value) → HasValue r legs v → HasValue r legs w → v ≡ w
one_value r legs v w h k =
    let same_cost : pos v.cost ≡ pos w.cost = h.cost ∙ sym k.cost in
    same_value v w (h.departure ∙ sym k.departure) (h.arrival ∙ sym k.arrival) (h.rides ∙ sym k.rides) (cc same_cost)

pub one_offer : (r : Request) (tail : List Leg) (reach : Reach) (a b : Found) → IsOffer r tail reach a → IsOffer r tail reach b → a ≡ b
one_offer r tail reach a b h k =
    let legs : a.journey.legs ≡ b.journey.legs = h.1 ∙ sym k.1 in
    let value = one_value r (Walk reach.seconds ∷ tail) a.value b.value h.2 k.2 in
    λ i. record { value = value i; journey = record { legs = legs i } }

-- ---- ranges

-- the calls of a ride in order and in range
pub record IsRideTimely (board alight : Call) : Type 0 where
  pub departs : IsTime board.departure
  pub arrives : IsTime alight.arrival
  pub forward : board.departure ≤ℤ alight.arrival

ride_timely : (runs : List Run) (name : RunName) (board alight : Call) → All IsTimely runs → IsRide runs name board alight → IsRideTimely board alight
ride_timely runs name board alight all h =
    let timely = All-contains IsTimely runs h.run all h.on in
    let lb = slice_get_within h.run.calls h.from board h.is.boards in
    let la = slice_get_within h.run.calls h.to alight h.is.alights in
    let b = get_or_from_slice_get h.run.calls h.from board board h.is.boards in
    let a = get_or_from_slice_get h.run.calls h.to alight alight h.is.alights in
    let b' = get_or_from_slice_get h.run.calls h.from board alight h.is.boards in
    let apart = timely.forward h.from h.to alight h.is.before la in
    record {
      departs = subst (λ (c : Call). IsTime c.departure) b (timely.in_range h.from board lb).1;
      arrives = subst (λ (c : Call). IsTime c.arrival) a (timely.in_range h.to alight la).0;
      forward = subst (λ (c : Call). c.departure ≤ℤ alight.arrival) b' (subst (λ (c : Call). (get_or h.run.calls h.from alight).departure ≤ℤ c.arrival) a apart);
    }

change_takes : (arrival departure : ℤ) (n : ℕ) → (arrival +ℤ pos n) ≤ℤ departure → arrival ≤ℤ departure
change_takes arrival departure n h = omega (arith, ints, h)

at_most_then : (a b c : ℤ) → a ≤ℤ b → b ≤ℤ c → a ≤ℤ c
at_most_then a b c h k = omega (arith, ints, h, k)

module _ (runs : List Run) (edges : Edges) (r : Request) (all : All IsTimely runs) where
  follows_length : (last : Call) (walk : ℕ) (legs : List Leg) → Follows runs edges r last walk legs → length legs ≡ 2 * rides_of legs
  follows_length last walk [] h = refl
  follows_length last walk (RideLeg t b a ∷ Walk w ∷ legs) h = omega (arith, follows_length a w legs h.2)
  follows_length last walk (RideLeg t b a ∷ RideLeg t' b' a' ∷ legs) h = absurd h
  follows_length last walk (RideLeg t b a ∷ []) h = absurd h
  follows_length last walk (Walk w ∷ legs) h = absurd h

  follows_in_range : (last : Call) (walk : ℕ) (legs : List Leg) → Follows runs edges r last walk legs → All IsLegInRange legs
  follows_in_range last walk [] h = All-nil IsLegInRange
  follows_in_range last walk (RideLeg t b a ∷ Walk w ∷ legs) h =
      let ride = ride_timely runs t b a all h.1 in
      All-cons IsLegInRange (RideLeg t b a) (Walk w ∷ legs) (ride.departs, ride.arrives) (All-cons IsLegInRange (Walk w) legs tt (follows_in_range a w legs h.2))
  follows_in_range last walk (RideLeg t b a ∷ RideLeg t' b' a' ∷ legs) h = absurd h
  follows_in_range last walk (RideLeg t b a ∷ []) h = absurd h
  follows_in_range last walk (Walk w ∷ legs) h = absurd h

  -- what follows an alighting arrives no earlier
  follows_arrives : (last : Call) (walk : ℕ) (legs : List Leg) → Follows runs edges r last walk legs → last.arrival ≤ℤ arrival_after (last.arrival +ℤ pos walk) legs
  follows_arrives last walk [] h = omega (arith, ints)
  follows_arrives last walk (RideLeg t b a ∷ Walk w ∷ legs) h =
      at_most_then _ _ _ (change_takes _ _ _ h.0.in_time) (at_most_then _ _ _ (ride_timely runs t b a all h.1).forward (follows_arrives a w legs h.2))
  follows_arrives last walk (RideLeg t b a ∷ RideLeg t' b' a' ∷ legs) h = absurd h
  follows_arrives last walk (RideLeg t b a ∷ []) h = absurd h
  follows_arrives last walk (Walk w ∷ legs) h = absurd h

  -- a journey that ends in a tail of at most 8 rides has a value
  tail_valued : (n : ℕ) (legs : List Leg) → n ≤ 8 → IsTailOf runs edges r n legs → IsValued legs
  tail_valued n (RideLeg t b a ∷ Walk w ∷ legs) l h =
      let ride = ride_timely runs t b a all h.1.0 in
      record {
        few = omega (arith, follows_length a w legs h.1.1, h.0);
        in_range = All-cons IsLegInRange (RideLeg t b a) (Walk w ∷ legs) (ride.departs, ride.arrives) (All-cons IsLegInRange (Walk w) legs tt (follows_in_range a w legs h.1.1));
        forward = at_most_then _ _ _ ride.forward (follows_arrives a w legs h.1.1);
      }
  tail_valued n (RideLeg t b a ∷ RideLeg t' b' a' ∷ legs) l h = absurd h.1
  tail_valued n (RideLeg t b a ∷ []) l h = absurd h.1
  tail_valued n (Walk w ∷ legs) l h = absurd h.1
  tail_valued n [] l h = absurd h.1

  pub tails_valued : (n : ℕ) (tails : List (List Leg)) → n ≤ 8 → ((t : List Leg) → Contains tails t ↔ IsTailOf runs edges r n t) → All IsValued tails
  tails_valued n tails l e k d m = let t = get_or tails k d in tail_valued n t l ((e t).0 (Contains-get_or tails k d m))

-- ---- levels

-- the tails have n rides, and the offers at most n
pub record IsLevel (runs : List Run) (edges : Edges) (r : Request) (access : List Reach) (n : ℕ) (tails : List (List Leg)) (offers : List Found) : Type 0 where
  pub tails_are : (legs : List Leg) → Contains tails legs ↔ IsTailOf runs edges r n legs
  pub offers_are : Adds (FromBelow (IsOfferWith runs edges r access) n) [] offers

module _ (runs : List Run) (edges : Edges) (r : Request) (rides : List Ride) (exact : (ride : Ride) → Contains rides ride ↔ IsRideAmong runs ride) where
  pub tails_first : (egress : List Reach) (tails : List (List Leg)) → AreReached edges r.to egress → ((legs : List Leg) → Contains tails legs ↔ FromSome (λ (ride : Ride). FromSome (IsLastTail ride) egress) rides legs) → (legs : List Leg) → Contains tails legs ↔ IsTailOf runs edges r 1 legs
  tails_first egress tails to e legs = (
    (λ k. let h = (e legs).0 k in tail_from_last runs edges r h.0 h.2.0 legs ((exact h.0).0 h.1) ((to h.2.0).0 h.2.1) h.2.2),
    (λ k. let h = last_from_tail runs edges r legs k in (e legs).1 (h.0, (exact h.0).1 h.1, (h.2.0, (to h.2.0).1 h.2.1, h.2.2))),
  )

  pub tails_more : (n : ℕ) (tails longer : List (List Leg)) → 0 < n → ((legs : List Leg) → Contains tails legs ↔ IsTailOf runs edges r n legs) → ((legs : List Leg) → Contains longer legs ↔ FromSome (IsLongerFrom r.slack edges tails) rides legs) → (legs : List Leg) → Contains longer legs ↔ IsTailOf runs edges r (n + 1) legs
  tails_more n tails longer l before e legs = (
    (λ k. let h = (e legs).0 k in tail_from_longer runs edges r n tails h.0 legs (λ t. (before t).0) ((exact h.0).0 h.1) h.2),
    (λ k. let h = longer_from_tail runs edges r n tails legs l (λ t. (before t).1) k in (e legs).1 (h.0, (exact h.0).1 h.1, h.2)),
  )

-- what the tails of k + 1 rides add
pub adds_offers_with : (runs : List Run) (edges : Edges) (r : Request) (access : List Reach) (k : ℕ) (tails : List (List Leg)) (xs ys : List Found) → ((legs : List Leg) → Contains tails legs ↔ IsTailOf runs edges r (k + 1) legs) → Adds (FromSome (IsOfferBy r access) tails) xs ys → Adds (IsOfferWith runs edges r access k) xs ys
adds_offers_with runs edges r access k tails xs ys e = adds_as (FromSome (IsOfferBy r access) tails) (IsOfferWith runs edges r access k) xs ys
    (λ x h. (h.0, (e h.0).0 h.1, h.2))
    (λ x h. (h.0, (e h.0).1 h.1, h.2))

-- the first level
pub level_one : (runs : List Run) (edges : Edges) (r : Request) (access : List Reach) (tails : List (List Leg)) (ys : List Found) → ((legs : List Leg) → Contains tails legs ↔ IsTailOf runs edges r 1 legs) → Adds (FromSome (IsOfferBy r access) tails) [] ys → IsLevel runs edges r access 1 tails ys
level_one runs edges r access tails ys e a = record {
  tails_are = e;
  offers_are = adds_as (IsOfferWith runs edges r access 0) (FromBelow (IsOfferWith runs edges r access) 1) [] ys
      (λ x h. (0, omega arith, h))
      (λ x h. let z : h.0 ≡ 0 = omega (arith, h.1) in subst (λ (k : ℕ). IsOfferWith runs edges r access k x) z h.2)
      (adds_offers_with runs edges r access 0 tails [] ys e a);
}

-- one ride more
pub level_more : (runs : List Run) (edges : Edges) (r : Request) (access : List Reach) (n : ℕ) (tails longer : List (List Leg)) (ys zs : List Found) → IsLevel runs edges r access n tails ys → ((legs : List Leg) → Contains longer legs ↔ IsTailOf runs edges r (n + 1) legs) → Adds (FromSome (IsOfferBy r access) longer) ys zs → IsLevel runs edges r access (n + 1) longer zs
level_more runs edges r access n tails longer ys zs v e a = record {
  tails_are = e;
  offers_are = adds_more_below (IsOfferWith runs edges r access) n [] ys zs v.offers_are (adds_offers_with runs edges r access n longer ys zs e a);
}

-- ---- all journeys

module _ (runs : List Run) (edges : Edges) (r : Request) (access : List Reach) (from : AreReached edges r.from access) where
  journey_from_tail : (k : ℕ) (tail : List Leg) (reach : Reach) → k < r.rides → IsTailOf runs edges r (k + 1) tail → Boards reach.stop tail → Contains access reach → IsJourney runs edges r (Walk reach.seconds ∷ tail)
  journey_from_tail k (RideLeg t b a ∷ Walk w ∷ legs) reach l h e on =
      (subst (λ (s : ℕ). IsReached edges r.from s reach.seconds) (sym e) ((from reach).0 on), h.1.0, h.1.1, omega (arith, h.0))
  journey_from_tail k (RideLeg t b a ∷ RideLeg t' b' a' ∷ legs) reach l h e on = absurd h.1
  journey_from_tail k (RideLeg t b a ∷ []) reach l h e on = absurd h.1
  journey_from_tail k (Walk w ∷ legs) reach l h e on = absurd h.1
  journey_from_tail k [] reach l h e on = absurd h.1

  offer_from_journey : (legs : List Leg) (v : Value) → IsJourney runs edges r legs → HasValue r legs v → IsInWindow r v → FromBelow (IsOfferWith runs edges r access) r.rides (record { value = v; journey = record { legs = legs } })
  offer_from_journey (Walk first ∷ RideLeg t b a ∷ Walk w ∷ legs) v h has in' =
      (rides_of legs, omega (arith, h.3), (RideLeg t b a ∷ Walk w ∷ legs, (omega arith, (h.1, h.2)), (record { stop = b.stop; seconds = first }, (from (record { stop = b.stop; seconds = first })).1 h.0, (refl, refl, has, in'))))
  offer_from_journey (Walk first ∷ RideLeg t b a ∷ RideLeg t' b' a' ∷ legs) v h has in' = absurd h
  offer_from_journey (Walk first ∷ RideLeg t b a ∷ []) v h has in' = absurd h
  offer_from_journey (Walk first ∷ Walk w ∷ legs) v h has in' = absurd h
  offer_from_journey (Walk first ∷ []) v h has in' = absurd h
  offer_from_journey (RideLeg t b a ∷ legs) v h has in' = absurd h
  offer_from_journey [] v h has in' = absurd h

  pub enough_offers : (n : ℕ) (offers : List Found) → r.rides ≡ n → Adds (FromBelow (IsOfferWith runs edges r access) n) [] offers → AreEnough runs edges r offers
  enough_offers n offers e adds = record {
    journey = λ f k. let h = (set f).0 k in subst (IsJourney runs edges r) (sym h.2.2.2.1) (journey_from_tail h.0 h.2.0 h.2.2.0 (omega (arith, h.1)) h.2.1 h.2.2.2.0 h.2.2.1);
    value = λ f k. let h = (set f).0 k in subst (λ (legs : List Leg). HasValue r legs f.value) (sym h.2.2.2.1) h.2.2.2.2;
    in_window = λ f k. let h = (set f).0 k in h.2.2.2.3;
    met = λ v o.
        let found : Found = record { value = v; journey = record { legs = o.legs } } in
        let k = (set found).1 (subst (λ (m : ℕ). FromBelow (IsOfferWith runs edges r access) m found) e (offer_from_journey o.legs v o.journey o.has o.in_window)) in
        (k.0, found, k.1, k.2, no_worse_itself v);
  }
    where
      set : (f : Found) → Contains offers f ↔ FromBelow (IsOfferWith runs edges r access) n f
      set = Contains-adds (FromBelow (IsOfferWith runs edges r access) n) offers adds
