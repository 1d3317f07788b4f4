-- The moments in a request's window at which journeys depart.
use Rattle.std.specs.Prelude.{◌≡◌, ℕ, ℤ, pos, ◌+ℤ◌, ◌-ℤ◌, ◌≤ℤ◌, ◌<ℤ◌, List, Some, map, slice_get}
use Rattle.std.specs.List.{All, AllPairs, Contains}
use Rattle.otp_base.specs.Adds.{FromSome}
use Rattle.otp_model.specs.Beginnings.{Hop, IsHop}
use Rattle.otp_model.specs.declared.journey.Request.{Request}
use Rattle.otp_model.specs.declared.timetable.Run.{Run}
use Rattle.trip_patterns.specs.Lanes.{LaneOf, departure_at}
use Rattle.trip_patterns.specs.Timetables.{IsPlaceOf}
use Rattle.trip_patterns.specs.declared.timetable.BlockStop.{BlockStop}
use Rattle.walk_table.specs.declared.reach.Reach.{Reach}

-- the moment is in the window
pub record IsMomentIn (r : Request) (t : ℤ) : Type 0 where
  pub not_before : r.time ≤ℤ t
  pub not_after : t <ℤ (r.time +ℤ pos r.window)

-- the moment is in the window, and an access from it ends at the time
abbrev pub IsMomentBy : Request → Reach → ℤ → ℤ → Type 0
IsMomentBy r reach time t = (t ≡ time -ℤ pos reach.seconds) × IsMomentIn r t

-- at the departure of a row of the lane from the position
abbrev pub IsMomentOn : Request → Reach → ℕ → LaneOf → ℤ → Type 0
IsMomentOn r reach position lane t = FromSome (IsMomentBy r reach) (map (departure_at position) lane.runs) t

-- of a row of a lane of a block, and at any place of the access's stop
abbrev pub IsMomentAt : List (List LaneOf) → Request → Reach → BlockStop → ℤ → Type 0
IsMomentAt blocks r reach place t = (lanes : List LaneOf) × (slice_get blocks place.block ≡ Some lanes) × FromSome (IsMomentOn r reach place.position) lanes t

abbrev pub IsMomentFrom : List (List LaneOf) → Request → Reach → ℤ → Type 0
IsMomentFrom blocks r reach t = (place : BlockStop) × IsPlaceOf blocks reach.stop place × IsMomentAt blocks r reach place t

abbrev pub IsEarlier : ℤ → ℤ → Type 0
IsEarlier a b = a <ℤ b

-- Moments of the window, which rise strictly, with each at which a journey can depart that begins with one of these.
pub record AreMoments (runs : List Run) (r : Request) (starts : List Reach) (moments : List ℤ) : Type 0 where
  pub rise : AllPairs IsEarlier moments
  pub in_window : All (IsMomentIn r) moments
  pub whole : (h : Hop) → Contains starts (record { stop = h.board.stop; seconds = h.walk }) → IsHop runs h → IsMomentIn r (h.board.departure -ℤ pos h.walk)
      → Contains moments (h.board.departure -ℤ pos h.walk)
