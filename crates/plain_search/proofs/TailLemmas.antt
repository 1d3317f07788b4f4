-- Tails, and when one is longer than another.
use Rattle.std.proofs.Common.{max, pos, ◌+ℤ◌, ◌≤ℤ◌, ◌<◌, arith, ◌≡◌, ℕ, ◌+◌, List, [], ◌∷◌, Some, refl, sym, ap, subst, ◌∙◌}
use Rattle.std.specs.List.{Contains, slice_get}
use Rattle.std.proofs.lemmas.Option.{same_Some}
use Rattle.otp_model.specs.declared.timetable.Edge.{Edge}
use Rattle.otp_model.specs.declared.timetable.Edges.{Edges}
use Rattle.otp_model.specs.declared.timetable.Run.{Run}
use Rattle.otp_model.specs.declared.journey.Request.{Request}
use Rattle.otp_model.specs.declared.journey.Leg.{Leg}
use Rattle.otp_model.specs.declared.journey.Leg.TheVariants.{Walk, Ride as RideLeg}
use Rattle.otp_model.specs.Plane.{IsReached}
use Rattle.otp_model.specs.Journeys.{IsTransfer, Follows}
use Rattle.walk_table.specs.declared.reach.Reach.{Reach}
use Rattle.plain_search.specs.Rides.{IsRideAmong}
use Rattle.plain_search.specs.declared.rides.Ride.{Ride}
use Rattle.otp_base.specs.Adds.{Adds, FromSome}
use Rattle.plain_search.specs.Tails.{IsLastTail, Joins, IsLongerBy, IsLongerFrom, IsTail, IsTailOf}
use Rattle.otp_base.proofs.AddsLemmas.{adds_as}

-- the edges of the ride's last stop were gone through
pub adds_longer_from : (slack : ℕ) (edges : Edges) (tails : List (List Leg)) (ride : Ride) (row : List Edge) (xs ys : List (List Leg)) → slice_get edges.from ride.alight.stop ≡ Some row → Adds (FromSome (IsLongerBy slack row ride) tails) xs ys → Adds (IsLongerFrom slack edges tails ride) xs ys
adds_longer_from slack edges tails ride row xs ys e = adds_as (FromSome (IsLongerBy slack row ride) tails) (IsLongerFrom slack edges tails ride) xs ys
    (λ x h. (row, e, h))
    (λ x h. subst (λ (z : List Edge). FromSome (IsLongerBy slack z ride) tails x) (same_Some h.0 row (sym h.1 ∙ e)) h.2)

module _ (runs : List Run) (edges : Edges) (r : Request) where
  -- a last tail is a tail of one ride
  pub tail_from_last : (ride : Ride) (reach : Reach) (legs : List Leg) → IsRideAmong runs ride → IsReached edges r.to reach.stop reach.seconds → IsLastTail ride reach legs → IsTailOf runs edges r 1 legs
  tail_from_last ride reach legs on reached h =
      subst (IsTailOf runs edges r 1) (sym h.1) (refl, (on, subst (λ (s : ℕ). IsReached edges r.to s reach.seconds) (sym h.0) reached))

  -- a tail of one ride is a last tail
  pub last_from_tail : (legs : List Leg) → IsTailOf runs edges r 1 legs → (ride : Ride) × IsRideAmong runs ride × ((reach : Reach) × IsReached edges r.to reach.stop reach.seconds × IsLastTail ride reach legs)
  last_from_tail (RideLeg name board alight ∷ Walk seconds ∷ []) h =
      (record { name = name; board = board; alight = alight }, h.1.0, (record { stop = alight.stop; seconds = seconds }, h.1.1, (refl, refl)))
  last_from_tail (RideLeg name board alight ∷ Walk seconds ∷ RideLeg t b a ∷ Walk w ∷ legs) h = absurd (omega (arith, h.0))
  last_from_tail (RideLeg name board alight ∷ Walk seconds ∷ RideLeg t b a ∷ RideLeg t' b' a' ∷ legs) h = absurd h.1.1
  last_from_tail (RideLeg name board alight ∷ Walk seconds ∷ RideLeg t b a ∷ []) h = absurd h.1.1
  last_from_tail (RideLeg name board alight ∷ Walk seconds ∷ Walk w ∷ legs) h = absurd h.1.1
  last_from_tail (RideLeg name board alight ∷ RideLeg t b a ∷ legs) h = absurd h.1
  last_from_tail (RideLeg name board alight ∷ []) h = absurd h.1
  last_from_tail (Walk seconds ∷ legs) h = absurd h.1
  last_from_tail [] h = absurd h.1

  follows_from_tail : (ride : Ride) (row : List Edge) (edge : Edge) (tail : List Leg) → slice_get edges.from ride.alight.stop ≡ Some row → Contains row edge → Joins r.slack ride edge tail → IsTail runs edges r tail → Follows runs edges r ride.alight edge.walk tail
  follows_from_tail ride row edge (RideLeg t b a ∷ Walk w ∷ legs) row_is on j h =
      (record { row = row; row_is = row_is; edge = edge; on = on; to_is = j.0; walk_is = refl; in_time = j.1 }, h.0, h.1)
  follows_from_tail ride row edge (RideLeg t b a ∷ RideLeg t' b' a' ∷ legs) row_is on j h = absurd h
  follows_from_tail ride row edge (RideLeg t b a ∷ []) row_is on j h = absurd h
  follows_from_tail ride row edge (Walk w ∷ legs) row_is on j h = absurd h
  follows_from_tail ride row edge [] row_is on j h = absurd h

  -- a longer tail is a tail of one ride more
  pub tail_from_longer : (n : ℕ) (tails : List (List Leg)) (ride : Ride) (legs : List Leg) → ((t : List Leg) → Contains tails t → IsTailOf runs edges r n t) → IsRideAmong runs ride → IsLongerFrom r.slack edges tails ride legs → IsTailOf runs edges r (n + 1) legs
  tail_from_longer n tails ride legs all on h =
      let row = h.0 in
      let tail = h.2.0 in
      let edge = h.2.2.0 in
      let t = all tail h.2.1 in
      subst (IsTailOf runs edges r (n + 1)) (sym h.2.2.2.1)
      ((omega (arith, t.0)), (on, follows_from_tail ride row edge tail h.1 h.2.2.1 h.2.2.2.0 t.1))

  -- a tail of one ride more is longer than another
  pub longer_from_tail : (n : ℕ) (tails : List (List Leg)) (legs : List Leg) → 0 < n → ((t : List Leg) → IsTailOf runs edges r n t → Contains tails t) → IsTailOf runs edges r (n + 1) legs → (ride : Ride) × IsRideAmong runs ride × IsLongerFrom r.slack edges tails ride legs
  longer_from_tail n tails (RideLeg name board alight ∷ Walk seconds ∷ RideLeg t b a ∷ Walk w ∷ legs) l all h =
      let transfer : IsTransfer edges r.slack alight b seconds = h.1.1.0 in
      let tail : List Leg = RideLeg t b a ∷ Walk w ∷ legs in
      let ride : Ride = record { name = name; board = board; alight = alight } in (
        ride,
        h.1.0,
        (
          transfer.row,
          transfer.row_is,
          (
            tail,
            all tail (omega (arith, h.0), (h.1.1.1, h.1.1.2)),
            (transfer.edge, transfer.on, ((transfer.to_is, subst (λ (x : ℕ). (alight.arrival +ℤ pos (max (x + r.slack) transfer.edge.minimum)) ≤ℤ b.departure) (sym transfer.walk_is) transfer.in_time), ap (λ (x : ℕ). RideLeg name board alight ∷ Walk x ∷ RideLeg t b a ∷ Walk w ∷ legs) (sym transfer.walk_is))),
          ),
        ),
      )
  longer_from_tail n tails (RideLeg name board alight ∷ Walk seconds ∷ []) l all h = absurd (omega (arith, h.0))
  longer_from_tail n tails (RideLeg name board alight ∷ Walk seconds ∷ RideLeg t b a ∷ RideLeg t' b' a' ∷ legs) l all h = absurd h.1.1
  longer_from_tail n tails (RideLeg name board alight ∷ Walk seconds ∷ RideLeg t b a ∷ []) l all h = absurd h.1.1
  longer_from_tail n tails (RideLeg name board alight ∷ Walk seconds ∷ Walk w ∷ legs) l all h = absurd h.1.1
  longer_from_tail n tails (RideLeg name board alight ∷ RideLeg t b a ∷ legs) l all h = absurd h.1
  longer_from_tail n tails (RideLeg name board alight ∷ []) l all h = absurd h.1
  longer_from_tail n tails (Walk seconds ∷ legs) l all h = absurd h.1
  longer_from_tail n tails [] l all h = absurd h.1
