-- Journeys over a schedule, and the value of each. A run calls at stops as `stop_times.txt` of the GTFS
-- Schedule reference says; a ride boards and alights where pickup_type and drop_off_type allow it. What a
-- second on foot and a boarding cost is this project's own.
use Rattle.std.specs.Prelude.{◌≡◌, ℕ, ◌+◌, ◌<◌, ◌≤◌, max, ℤ, pos, ◌+ℤ◌, ◌-ℤ◌, ◌*ℤ◌, ◌≤ℤ◌, List, [], ◌∷◌, Some, IsTrue, slice_get}
use Rattle.std.specs.List.{Contains}
use Rattle.otp_model.specs.declared.timetable.Call.{Call}
use Rattle.otp_model.specs.declared.run_name.RunName.{RunName}
use Rattle.otp_model.specs.declared.timetable.Run.{Run}
use Rattle.otp_model.specs.declared.timetable.Edge.{Edge}
use Rattle.otp_model.specs.declared.timetable.Edges.{Edges}
use Rattle.otp_model.specs.declared.journey.Request.{Request}
use Rattle.otp_model.specs.declared.journey.Value.{Value}
use Rattle.otp_model.specs.declared.journey.Leg.{Leg}
use Rattle.otp_model.specs.declared.journey.Leg.TheVariants.{Walk, Ride}
use Rattle.otp_model.specs.Plane.{IsReached}

-- two calls of a run, the boarding call before the alighting call, both allowed
pub record IsRideOn (run : Run) (from to : ℕ) (name : RunName) (board alight : Call) : Type 0 where
  pub name_is : name ≡ run.name
  pub before : from < to
  pub boards : slice_get run.calls from ≡ Some board
  pub alights : slice_get run.calls to ≡ Some alight
  pub may_board : IsTrue board.board
  pub may_alight : IsTrue alight.alight

-- a ride of the schedule
pub record IsRide (runs : List Run) (name : RunName) (board alight : Call) : Type 0 where
  pub run : Run
  pub on : Contains runs run
  pub from : ℕ
  pub to : ℕ
  pub is : IsRideOn run from to name board alight

-- A change between two rides: an edge from the stop of one to the stop of the other, in time for the
-- boarding. It takes the walk and the slack, and no less than the edge's minimum.
pub record IsTransfer (edges : Edges) (slack : ℕ) (alight board : Call) (walk : ℕ) : Type 0 where
  pub row : List Edge
  pub row_is : slice_get edges.from alight.stop ≡ Some row
  pub edge : Edge
  pub on : Contains row edge
  pub to_is : edge.to ≡ board.stop
  pub walk_is : edge.walk ≡ walk
  pub in_time : (alight.arrival +ℤ pos (max (walk + slack) edge.minimum)) ≤ℤ board.departure

-- What may follow a ride that alights at a call and the walk after it: nothing, where the walk is that
-- to the destination, or another ride after a transfer, and what follows that one.
abbrev pub Follows : List Run → Edges → Request → Call → ℕ → List Leg → Type 0
Follows runs edges r last walk [] = IsReached edges r.to last.stop walk
Follows runs edges r last walk (Ride name board alight ∷ Walk next ∷ legs) =
    IsTransfer edges r.slack last board walk × IsRide runs name board alight × Follows runs edges r alight next legs
Follows runs edges r last walk _ = ⊥

-- how many rides there are
abbrev pub rides_of : List Leg → ℕ
rides_of [] = 0
rides_of (Walk seconds ∷ legs) = rides_of legs
rides_of (Ride name board alight ∷ legs) = 1 + rides_of legs

-- A journey: the walk to the first stop, a ride, and what may follow it, with no more rides than asked for.
abbrev pub IsJourney : List Run → Edges → Request → List Leg → Type 0
IsJourney runs edges r (Walk first ∷ Ride name board alight ∷ Walk next ∷ legs) =
    IsReached edges r.from board.stop first × IsRide runs name board alight × Follows runs edges r alight next legs
    × (1 + rides_of legs ≤ r.rides)
IsJourney runs edges r _ = ⊥

-- the first boarding's departure less the seconds walked before it
abbrev pub departure_of : List Leg → ℤ
departure_of (Walk seconds ∷ Ride name board alight ∷ legs) = board.departure -ℤ pos seconds
departure_of _ = pos 0

-- where these legs begin at t, when they end: a ride ends at its alighting's arrival, a walk takes its seconds
abbrev pub arrival_after : ℤ → List Leg → ℤ
arrival_after t [] = t
arrival_after t (Walk seconds ∷ legs) = arrival_after (t +ℤ pos seconds) legs
arrival_after t (Ride name board alight ∷ legs) = arrival_after alight.arrival legs

-- the last alighting's arrival plus the seconds walked after it
abbrev pub arrival_of : List Leg → ℤ
arrival_of legs = arrival_after (pos 0) legs

-- the seconds walked in all
abbrev pub walked_of : List Leg → ℕ
walked_of [] = 0
walked_of (Walk seconds ∷ legs) = seconds + walked_of legs
walked_of (Ride name board alight ∷ legs) = walked_of legs

-- 100 for each second from departure to arrival, more for each on foot, and the points of each boarding
abbrev pub cost_of : Request → List Leg → ℤ
cost_of r legs =
    (pos 100 *ℤ (arrival_of legs -ℤ departure_of legs))
    +ℤ (((pos r.walk_points -ℤ pos 100) *ℤ pos (walked_of legs)) +ℤ (pos r.board_points *ℤ pos (rides_of legs)))

-- the value of these legs
pub record HasValue (r : Request) (legs : List Leg) (v : Value) : Type 0 where
  pub departure : v.departure ≡ departure_of legs
  pub arrival : v.arrival ≡ arrival_of legs
  pub rides : v.rides ≡ rides_of legs
  pub cost : pos v.cost ≡ cost_of r legs
