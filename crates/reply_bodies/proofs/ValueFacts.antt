-- How great the value of a journey over a schedule can be.
use Rattle.std.proofs.Common.{◌≡◌, ℕ, ◌+◌, ◌-◌, ◌^◌, ◌<◌, ◌≤◌, max, ℤ, pos, neg_ℤ, ◌+ℤ◌, ◌-ℤ◌, ◌*ℤ◌, ◌≤ℤ◌, List, [], ◌∷◌, length, get_or, subst, sym, arith, refl}
use Rattle.std.specs.List.{All}
use Rattle.std.proofs.Math.Nat.{div-le_self}
use Rattle.std.proofs.lemmas.Int.{ints}
use Rattle.std.proofs.lemmas.Nat.{mul-le}
use Rattle.std.proofs.lemmas.List.Elements.{All-cons, All-nil, All-contains}
use Rattle.std.proofs.lemmas.Option.{slice_get_within, get_or_from_slice_get}
use Rattle.otp_model.specs.declared.journey.Found.{Found}
use Rattle.otp_model.specs.declared.journey.Leg.{Leg}
use Rattle.otp_model.specs.declared.journey.Leg.TheVariants.{Walk, Ride}
use Rattle.otp_model.specs.declared.journey.Request.{Request}
use Rattle.otp_model.specs.declared.run_name.RunName.{RunName}
use Rattle.otp_model.specs.declared.run_name.TripName.{TripName}
use Rattle.otp_model.specs.declared.run_name.TripName.TheVariants.{Planned, Added}
use Rattle.otp_model.specs.declared.timetable.Call.{Call}
use Rattle.otp_model.specs.declared.timetable.Edges.{Edges}
use Rattle.otp_model.specs.declared.timetable.Feed.{Feed}
use Rattle.otp_model.specs.declared.timetable.Run.{Run}
use Rattle.otp_model.specs.declared.journey.Value.{Value}
use Rattle.otp_model.specs.Journeys.{Follows, HasValue, IsJourney, IsRide, arrival_after, rides_of, walked_of}
use Rattle.otp_model.specs.Limits.{least_walk_points, most_board_points, most_reach, most_rides, most_walk_points}
use Rattle.otp_model.specs.Plane.{IsReached}
use Rattle.otp_model.specs.Ranges.{IsServiceDay}
use Rattle.otp_model.specs.Sound.{AreServed, IsServedCall, IsServedRun, IsServedTrip}
use Rattle.otp_model.specs.Whole.{IsInWindow}
use Rattle.paging.specs.Text.{FitsText}
use Rattle.plan_json.specs.Journeys.{IsLegOf, IsRideOf, IsTripOf}
use Rattle.plan_json.specs.Plan.{IsFoundOf}
use Rattle.planner.specs.Entries.{IsEntry}
use Rattle.query_form.specs.Query.{IsAsked}

-- a walk to or from a place is no longer than the reach has millimetres, and a second
reached_seconds : (edges : Edges) (place : _) (stop seconds : ℕ) → edges.profile.reach ≤ most_reach → IsReached edges place stop seconds → seconds ≤ most_reach + 1
reached_seconds edges place stop seconds small h =
    let near = h.way.walk.is_distance.least edges.profile.reach h.way.within in
    omega (arith, near, small, h.way.walk.seconds_are, div-le_self h.way.walk.distance edges.profile.speed)

-- the calls of a ride over a schedule
pub record IsServedRide (feed : Feed) (name : RunName) (board alight : Call) : Type 0 where
  pub of : IsRideOf feed name board alight
  pub forward : board.departure ≤ℤ alight.arrival
  pub low : neg_ℤ (pos (2 ^ 41)) ≤ℤ board.departure
  pub high : alight.arrival ≤ℤ pos (2 ^ 41)

call_at : (stops : ℕ) (calls : List Call) (n : ℕ) (call : Call) → All (IsServedCall stops) calls → n < length calls → get_or calls n call ≡ call → IsServedCall stops call
call_at stops calls n call all within is = subst (IsServedCall stops) is (all n call within)

trip_of : (feed : Feed) (trip : TripName) → IsServedTrip (length feed.trips) trip → IsTripOf feed trip
trip_of feed (Planned number) h = h
trip_of feed (Added text) h = h

served_ride : (feed : Feed) (runs : List Run) (name : RunName) (board alight : Call) → AreServed feed runs → IsRide runs name board alight → IsServedRide feed name board alight
served_ride feed runs name board alight served h =
    let run = All-contains (IsServedRun _ _) runs h.run served h.on in
    let lb = slice_get_within h.run.calls h.from board h.is.boards in
    let la = slice_get_within h.run.calls h.to alight h.is.alights in
    let b = get_or_from_slice_get h.run.calls h.from board board h.is.boards in
    let a = get_or_from_slice_get h.run.calls h.to alight alight h.is.alights in
    let b' = get_or_from_slice_get h.run.calls h.from board alight h.is.boards in
    let boards = call_at _ h.run.calls h.from board run.calls lb b in
    let alights = call_at _ h.run.calls h.to alight run.calls la a in
    let apart = run.along h.from h.to alight h.is.before la in
    record {
      of = record {
        trip_is = subst (λ (n : RunName). IsTripOf feed n.trip) (sym h.is.name_is) (trip_of feed h.run.name.trip run.trip);
        day_is = subst (λ (n : RunName). IsServiceDay n.day) (sym h.is.name_is) run.day;
        board_is = boards.stop;
        alight_is = alights.stop;
      };
      forward = subst (λ (c : Call). c.departure ≤ℤ alight.arrival) b' (subst (λ (c : Call). (get_or h.run.calls h.from alight).departure ≤ℤ c.arrival) a apart);
      low = omega (arith, ints, boards.low, boards.forward);
      high = omega (arith, ints, alights.high, alights.forward);
    }

-- what follows a ride that alights at a call and walks so long: its legs name the feed's, it arrives no earlier
-- than these walks let it, and not far beyond the last call
pub record AreSoundLegs (feed : Feed) (last : Call) (walk : ℕ) (legs : List Leg) : Type 0 where
  pub of : All (IsLegOf feed) legs
  pub low : (last.arrival +ℤ pos (walk + walked_of legs)) ≤ℤ arrival_after (last.arrival +ℤ pos walk) legs
  pub high : arrival_after (last.arrival +ℤ pos walk) legs ≤ℤ pos (2 ^ 41 + (most_reach + 1))

ends : (arrival : ℤ) (walk : ℕ) → arrival ≤ℤ pos (2 ^ 41) → walk ≤ most_reach + 1 → ((arrival +ℤ pos (walk + 0)) ≤ℤ (arrival +ℤ pos walk)) × ((arrival +ℤ pos walk) ≤ℤ pos (2 ^ 41 + (most_reach + 1)))
ends arrival walk high small = (omega (arith, ints), omega (arith, ints, high, small))

goes_on : (last board alight end : ℤ) (walk slack minimum next walked : ℕ) → (last +ℤ pos (max (walk + slack) minimum)) ≤ℤ board → board ≤ℤ alight
    → (alight +ℤ pos (next + walked)) ≤ℤ end → (last +ℤ pos (walk + (next + walked))) ≤ℤ end
goes_on last board alight end walk slack minimum next walked in_time forward h = omega (arith, ints, in_time, forward, h)

takes : (board alight departure end : ℤ) (first next walked : ℕ) → departure ≡ board -ℤ pos first → board ≤ℤ alight → (alight +ℤ pos (next + walked)) ≤ℤ end
    → (departure +ℤ pos (first + (next + walked))) ≤ℤ end
takes board alight departure end first next walked is forward h = omega (arith, ints, is, forward, h)

-- what a journey costs that takes no more than some seventy thousand years
cost_small : (cost walk_points board_points walked rides : ℕ) (departure arrival : ℤ)
    → pos cost ≡ ((pos 100 *ℤ (arrival -ℤ departure)) +ℤ (((pos walk_points -ℤ pos 100) *ℤ pos walked) +ℤ (pos board_points *ℤ pos rides)))
    → least_walk_points ≤ walk_points → walk_points ≤ most_walk_points → board_points ≤ most_board_points → rides ≤ most_rides → pos 0 ≤ℤ departure
    → (departure +ℤ pos walked) ≤ℤ arrival → arrival ≤ℤ pos (2 ^ 41 + (most_reach + 1)) → cost < 10 ^ 18
cost_small cost walk_points board_points walked rides departure arrival h least most points few early late end =
    let extra : (pos walk_points -ℤ pos 100) ≡ pos (walk_points - 100) = omega (arith, ints, least) in
    let k = subst (λ (z : ℤ). pos cost ≡ ((pos 100 *ℤ (arrival -ℤ departure)) +ℤ ((z *ℤ pos walked) +ℤ (pos board_points *ℤ pos rides)))) extra h in
    let little : walked ≤ 2 ^ 42 = omega (arith, ints, early, late, end) in
    let walking = mul-le (walk_points - 100) walked (most_walk_points - 100) (2 ^ 42) (omega (arith, most)) little in
    let boarding = mul-le board_points rides most_board_points most_rides points few in
    omega (arith, ints, k, walking, boarding, early, end)

module _ (feed : Feed) (runs : List Run) (edges : Edges) (r : Request) (served : AreServed feed runs) (small : edges.profile.reach ≤ most_reach) where
  follows : (last : Call) (walk : ℕ) (legs : List Leg) → last.arrival ≤ℤ pos (2 ^ 41) → Follows runs edges r last walk legs → AreSoundLegs feed last walk legs
  follows last walk [] high h =
      let e = ends last.arrival walk high (reached_seconds edges r.to last.stop walk small h) in
      record { of = All-nil (IsLegOf feed); low = e.0; high = e.1 }
  follows last walk (Ride n b a ∷ Walk w ∷ legs) high h =
      let ride = served_ride feed runs n b a served h.1 in
      let rest = follows a w legs ride.high h.2 in
      record {
        of = All-cons (IsLegOf feed) (Ride n b a) (Walk w ∷ legs) ride.of (All-cons (IsLegOf feed) (Walk w) legs tt rest.of);
        low = goes_on last.arrival b.departure a.arrival _ walk r.slack h.0.edge.minimum w (walked_of legs) h.0.in_time ride.forward rest.low;
        high = rest.high;
      }
  follows last walk (Ride n b a ∷ Ride n' b' a' ∷ legs) high h = absurd h
  follows last walk (Ride n b a ∷ []) high h = absurd h
  follows last walk (Walk w ∷ legs) high h = absurd h

  pub journey : (number : ℕ) (legs : List Leg) (v : Value) → number ≤ 2 ^ 40 → IsJourney runs edges r legs → HasValue r legs v → IsInWindow r v → IsAsked feed.stops r
      → All (IsLegOf feed) legs × FitsText (record { commit = number; value = v })
  journey number (Walk first ∷ Ride n b a ∷ Walk next ∷ legs) v counted h has in_window asked =
      let ride = served_ride feed runs n b a served h.1 in
      let rest = follows a next legs ride.high h.2 in
      let departs : ℤ = b.departure -ℤ pos first in
      let arrives : ℤ = arrival_after (a.arrival +ℤ pos next) legs in
      let early : pos 0 ≤ℤ departs = omega (arith, ints, in_window.not_before, asked.time.0, has.departure) in
      let late = takes b.departure a.arrival departs arrives first next (walked_of legs) refl ride.forward rest.low in
      let few : 1 + rides_of legs ≤ most_rides = omega (arith, h.3, asked.numbers.rides.1) in (
        All-cons (IsLegOf feed) (Walk first) (Ride n b a ∷ Walk next ∷ legs) tt
            (All-cons (IsLegOf feed) (Ride n b a) (Walk next ∷ legs) ride.of (All-cons (IsLegOf feed) (Walk next) legs tt rest.of)),
        record {
          commit = omega (arith, counted);
          departure = record {
            low = omega (arith, ints, early, has.departure);
            high = omega (arith, ints, in_window.not_after, asked.time.1, asked.window.1);
          };
          arrival = record {
            low = omega (arith, ints, early, late, has.arrival);
            high = omega (arith, ints, rest.high, has.arrival);
          };
          rides = omega (arith, few, has.rides);
          cost = cost_small v.cost r.walk_points r.board_points (first + (next + walked_of legs)) (1 + rides_of legs) departs arrives
              has.cost asked.numbers.walk_points.0 asked.numbers.walk_points.1 asked.numbers.board_points few early late rest.high;
        },
      )
  journey number legs v counted h has in_window asked = absurd h

  -- each entry of a page can be told
  pub entry_of : (number : ℕ) (found : Found) → number ≤ 2 ^ 40 → IsAsked feed.stops r → IsEntry runs edges r found → IsFoundOf feed number found
  entry_of number found counted asked entry =
      let told = journey number found.journey.legs found.value counted entry.journey entry.has entry.in_window asked in
      record { legs = told.0; fits = told.1 }
