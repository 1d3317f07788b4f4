-- The cursor of a request changes nothing in its whole list.
use Rattle.std.proofs.Common.{ℕ, List, [], ◌∷◌, Option}
use Rattle.otp_model.specs.declared.timetable.Call.{Call}
use Rattle.otp_model.specs.declared.timetable.Run.{Run}
use Rattle.otp_model.specs.declared.timetable.Edges.{Edges}
use Rattle.otp_model.specs.declared.journey.Request.{Request}
use Rattle.otp_model.specs.declared.journey.Cursor.{Cursor}
use Rattle.otp_model.specs.declared.journey.Value.{Value}
use Rattle.otp_model.specs.declared.journey.Found.{Found}
use Rattle.otp_model.specs.declared.journey.Leg.{Leg}
use Rattle.otp_model.specs.declared.journey.Leg.TheVariants.{Walk, Ride}
use Rattle.otp_model.specs.Journeys.{Follows, IsJourney}
use Rattle.otp_model.specs.Whole.{IsOffered, IsBest, IsWhole}
use Rattle.otp_model.specs.Laws.{from_cursor}

module _ (runs : List Run) (edges : Edges) (r : Request) (cursor : Option Cursor) where
  follows_from : (last : Call) (walk : ℕ) (legs : List Leg) → Follows runs edges r last walk legs → Follows runs edges (from_cursor r cursor) last walk legs
  follows_from last walk [] h = h
  follows_from last walk (Walk seconds ∷ legs) h = absurd h
  follows_from last walk (Ride name board alight ∷ []) h = absurd h
  follows_from last walk (Ride name board alight ∷ Walk next ∷ legs) h = (h.0, h.1, follows_from alight next legs h.2)
  follows_from last walk (Ride name board alight ∷ Ride name' board' alight' ∷ legs) h = absurd h

  follows_to : (last : Call) (walk : ℕ) (legs : List Leg) → Follows runs edges (from_cursor r cursor) last walk legs → Follows runs edges r last walk legs
  follows_to last walk [] h = h
  follows_to last walk (Walk seconds ∷ legs) h = absurd h
  follows_to last walk (Ride name board alight ∷ []) h = absurd h
  follows_to last walk (Ride name board alight ∷ Walk next ∷ legs) h = (h.0, h.1, follows_to alight next legs h.2)
  follows_to last walk (Ride name board alight ∷ Ride name' board' alight' ∷ legs) h = absurd h

  journey_from : (legs : List Leg) → IsJourney runs edges r legs → IsJourney runs edges (from_cursor r cursor) legs
  journey_from [] h = h
  journey_from (Ride name board alight ∷ legs) h = absurd h
  journey_from (Walk first ∷ []) h = absurd h
  journey_from (Walk first ∷ Walk seconds ∷ legs) h = absurd h
  journey_from (Walk first ∷ Ride name board alight ∷ []) h = absurd h
  journey_from (Walk first ∷ Ride name board alight ∷ Walk next ∷ legs) h = (h.0, h.1, follows_from alight next legs h.2, h.3)
  journey_from (Walk first ∷ Ride name board alight ∷ Ride name' board' alight' ∷ legs) h = absurd h

  journey_to : (legs : List Leg) → IsJourney runs edges (from_cursor r cursor) legs → IsJourney runs edges r legs
  journey_to [] h = h
  journey_to (Ride name board alight ∷ legs) h = absurd h
  journey_to (Walk first ∷ []) h = absurd h
  journey_to (Walk first ∷ Walk seconds ∷ legs) h = absurd h
  journey_to (Walk first ∷ Ride name board alight ∷ []) h = absurd h
  journey_to (Walk first ∷ Ride name board alight ∷ Walk next ∷ legs) h = (h.0, h.1, follows_to alight next legs h.2, h.3)
  journey_to (Walk first ∷ Ride name board alight ∷ Ride name' board' alight' ∷ legs) h = absurd h

  offered_from : (v : Value) → IsOffered runs edges r v → IsOffered runs edges (from_cursor r cursor) v
  offered_from v h = record {
    legs = h.legs;
    journey = journey_from h.legs h.journey;
    has = record { departure = h.has.departure; arrival = h.has.arrival; rides = h.has.rides; cost = h.has.cost };
    in_window = record { not_before = h.in_window.not_before; not_after = h.in_window.not_after };
  }

  offered_to : (v : Value) → IsOffered runs edges (from_cursor r cursor) v → IsOffered runs edges r v
  offered_to v h = record {
    legs = h.legs;
    journey = journey_to h.legs h.journey;
    has = record { departure = h.has.departure; arrival = h.has.arrival; rides = h.has.rides; cost = h.has.cost };
    in_window = record { not_before = h.in_window.not_before; not_after = h.in_window.not_after };
  }

  -- what is best is best whatever the cursor is
  pub best_from : (v : Value) → IsBest runs edges r v → IsBest runs edges (from_cursor r cursor) v
  best_from v h = record { offered = offered_from v h.offered; undominated = λ w k d. h.undominated w (offered_to w k) d }

  pub best_to : (v : Value) → IsBest runs edges (from_cursor r cursor) v → IsBest runs edges r v
  best_to v h = record { offered = offered_to v h.offered; undominated = λ w k d. h.undominated w (offered_from w k) d }

  -- a whole list is one whatever the cursor is
  pub whole_from : (list : List Found) → IsWhole runs edges r list → IsWhole runs edges (from_cursor r cursor) list
  whole_from list h = record {
    rises = h.rises;
    journeys = λ k d l. let was = h.journeys k d l in (journey_from _ was.0, record { departure = was.1.departure; arrival = was.1.arrival; rides = was.1.rides; cost = was.1.cost });
    best = λ k d l. best_from _ (h.best k d l);
    all = λ v b. h.all v (best_to v b);
  }
