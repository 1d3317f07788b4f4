-- The moments at which journeys depart.
use Rattle.std.proofs.Common.{◌≡◌, ◌↔◌, ℕ, ℤ, pos, ◌-ℤ◌, List, [], true, Option, Some, None, map, get_or, refl, sym, ap, ◌∙◌, arith}
use Rattle.std.specs.List.{All, AllPairs, Contains, slice_get}
use Rattle.std.specs.Option.{option_map_or}
use Rattle.std.specs.List.{dedup}
use Rattle.std.specs.List.Sorted.{IsPermutation, IsSorted, IsStrictlySortedBy}
use Rattle.std.specs.Ordering.{eq_by_cmp, int_cmp, int_eq}
use Rattle.std.specs.declared.cmp.Ordering.TheVariants.{Less}
use Rattle.std.proofs.lemmas.Cmp.{int_cmp_total, int_eq_equiv, int_ranked}
use Rattle.std.proofs.lemmas.Int.{ints}
use Rattle.std.proofs.lemmas.List.Kept.{Contains-dedup, Contains-from_dedup, IsStrictlySortedBy-dedup}
use Rattle.std.proofs.lemmas.List.Sorted.{Contains-permutation, IsPermutation-sym}
use Rattle.std.proofs.lemmas.Map.Keys.{Less-from_sorted}
use Rattle.std.proofs.lemmas.Option.{get_or_from_slice_get, slice_get_within}
use Rattle.std.proofs.lemmas.List.{get_or-map, length-map}
use Rattle.std.proofs.lemmas.List.Elements.{All-contains_itself, All-map, All-weaker}
use Rattle.otp_base.specs.Adds.{Adds, FromSome}
use Rattle.otp_base.proofs.AddsLemmas.{Contains-adds}
use Rattle.otp_model.specs.Beginnings.{Hop, IsHop}
use Rattle.otp_model.specs.Ranges.{IsCallInRange, IsTime, IsTimely}
use Rattle.otp_model.specs.declared.journey.Request.{Request}
use Rattle.otp_model.specs.declared.timetable.Call.{Call}
use Rattle.otp_model.specs.declared.timetable.Run.{Run}
use Rattle.trip_patterns.specs.Lanes.{LaneOf, departure_at}
use Rattle.trip_patterns.specs.Timetables.{StandsFor}
use Rattle.walk_table.specs.declared.reach.Reach.{Reach}
use Rattle.raptor_rounds.specs.Moments.{AreMoments, IsEarlier, IsMomentFrom, IsMomentIn}
use Rattle.raptor_rounds.proofs.BlockLemmas.{has_at, on_row}
use Rattle.raptor_rounds.proofs.LaneLemmas.{all_at}

-- ---- departures of a column

at_zero : IsTime (pos 0)
at_zero = record { low = omega (arith, ints); high = omega (arith, ints) }

departure_in_range : (position : ℕ) (run : Run) → IsTimely run → (o : Option Call) → slice_get run.calls position ≡ o → IsTime (option_map_or (λ (call : Call). call.departure) o (pos 0))
departure_in_range position run timely None h = at_zero
departure_in_range position run timely (Some call) h = (all_at IsCallInRange run.calls position call timely.in_range h).1

pub times_in_range : (position : ℕ) (runs : List Run) → All IsTimely runs → All IsTime (map (departure_at position) runs)
times_in_range position runs timely =
    All-map IsTime (departure_at position) runs (All-weaker IsTimely (λ (run : Run). IsTime (departure_at position run)) (λ run t. departure_in_range position run t (slice_get run.calls position) refl) runs timely)

-- a row departs as its column says
departs_at : (position row : ℕ) (runs : List Run) (run : Run) (call : Call) → slice_get runs row ≡ Some run → slice_get run.calls position ≡ Some call → Contains (map (departure_at position) runs) call.departure
departs_at position row runs run call run_is call_is =
    let less = slice_get_within runs row run run_is in (
      row,
      omega (arith, less, length-map runs (departure_at position)),
      get_or-map (departure_at position) runs row run call.departure less ∙ ap (departure_at position) (get_or_from_slice_get runs row run run run_is)
          ∙ ap (λ (o : Option Call). option_map_or (λ (c : Call). c.departure) o (pos 0)) call_is,
    )

-- ---- the order

same_from_eq : (x y : ℤ) → int_eq x y ≡ true → x ≡ y
same_from_eq x y h = grind (arith, ints)

eq_is : (x y : ℤ) → int_eq x y ≡ eq_by_cmp int_cmp x y
eq_is x y = grind (arith, ints)

pub same_in_order : (old sorted new : List ℤ) → IsPermutation old sorted → new ≡ dedup int_eq sorted → (t : ℤ) → Contains new t ↔ Contains old t
same_in_order old sorted new moved is t = (
  (λ on. Contains-permutation sorted old t (IsPermutation-sym old sorted moved) (Contains-from_dedup int_eq sorted t (rw is at on))),
  (λ on. rw is (Contains-dedup int_eq_equiv same_from_eq sorted t (Contains-permutation old sorted t moved on))),
)

pub rise_in_order : (sorted new : List ℤ) → IsSorted int_cmp sorted → new ≡ dedup int_eq sorted → AllPairs IsEarlier new
rise_in_order sorted new order is i j d less within =
    let strict : IsStrictlySortedBy int_cmp new = rw is (IsStrictlySortedBy-dedup int_cmp_total eq_is sorted order) in
    let x = get_or new i d in
    let y = get_or new j d in
    int_ranked x y Less (sym (Less-from_sorted int_cmp new i j d strict less within))

-- ---- all moments

module _ (runs : List Run) (blocks : List (List LaneOf)) (stands : StandsFor blocks runs) (r : Request) (starts : List Reach) where
  in_window : (t : ℤ) → FromSome (IsMomentFrom blocks r) starts t → IsMomentIn r t
  in_window t q = let from = q.2 in let at = from.2 in let on = at.2 in let by = on.2 in by.2.1

  has_moment : (h : Hop) → Contains starts (record { stop = h.board.stop; seconds = h.walk }) → IsHop runs h → IsMomentIn r (h.board.departure -ℤ pos h.walk)
      → FromSome (IsMomentFrom blocks r) starts (h.board.departure -ℤ pos h.walk)
  has_moment h from hop in_window =
      let x = on_row blocks runs stands h hop in
      let ride = x.ride in (
        record { stop = h.board.stop; seconds = h.walk },
        from,
        (
          x.place,
          x.is_place,
          (
            x.lanes,
            x.lanes_are,
            (
              x.lane,
              has_at x.lanes x.number x.lane x.lane_is,
              (h.board.departure, departs_at (x.place).position x.row (x.lane).runs x.run h.board x.run_is ride.boards, (refl, in_window)),
            ),
          ),
        ),
      )

  pub moments_are : (found moments : List ℤ) → Adds (FromSome (IsMomentFrom blocks r) starts) [] found → ((t : ℤ) → Contains moments t ↔ Contains found t) → AllPairs IsEarlier moments → AreMoments runs r starts moments
  moments_are found moments adds same rise =
      let set = Contains-adds (FromSome (IsMomentFrom blocks r) starts) found adds in
      record {
        rise = rise;
        in_window = All-weaker (Contains moments) (IsMomentIn r) (λ t on. in_window t ((set t).0 ((same t).0 on))) moments (All-contains_itself moments);
        whole = λ h from hop at. let t = h.board.departure -ℤ pos h.walk in (same t).1 ((set t).1 (has_moment h from hop at));
      }
