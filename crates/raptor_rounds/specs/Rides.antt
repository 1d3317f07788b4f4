-- What is ready at a stop for a ride: the rides that it may take, and the labels that come of them.
use Rattle.std.specs.Prelude.{◌≡◌, ℕ, ◌+◌, ◌*◌, ◌^◌, ◌≤◌, ◌<◌, max, ℤ, pos, neg_ℤ, ◌+ℤ◌, ◌≤ℤ◌, List, Option, Some, None, length, slice_get, IsTrue}
use Rattle.std.specs.List.{All}
use Rattle.otp_base.specs.Adds.{FromBelow}
use Rattle.otp_model.specs.declared.run_name.RunName.{RunName}
use Rattle.otp_model.specs.declared.timetable.Call.{Call}
use Rattle.otp_model.specs.declared.timetable.Edge.{Edge}
use Rattle.otp_model.specs.declared.timetable.Run.{Run}
use Rattle.otp_model.specs.declared.journey.Request.{Request}
use Rattle.otp_model.specs.Patterns.{Spot}
use Rattle.otp_model.specs.Beginnings.{Hop, IsHop, hop_penalty}
use Rattle.otp_model.specs.Journeys.{IsRideOn}
use Rattle.otp_model.specs.Ranges.{IsRequestInRange, IsTime, IsTimely}
use Rattle.trip_patterns.specs.Lanes.{IsLane, LaneOf}
use Rattle.trip_patterns.specs.declared.timetable.BlockStop.{BlockStop}
use Rattle.walk_table.specs.declared.reach.Reach.{Reach}
use Rattle.final_fronts.specs.declared.standing.Standing.{Standing}
use Rattle.raptor_rounds.specs.declared.node.Node.{Node}
use Rattle.raptor_rounds.specs.declared.ready.LanePlace.{LanePlace}
use Rattle.raptor_rounds.specs.declared.ready.Ready.{Ready}
use Rattle.raptor_rounds.specs.Closure.{Entry}
use Rattle.raptor_rounds.specs.Labels.{entry_of}

-- not later than the latest moment, if there is one
abbrev pub IsUntil : Option ℤ → ℤ → Type 0
IsUntil None t = Unit {0}
IsUntil (Some latest) t = t ≤ℤ latest

pub record IsInTime (b : Ready) (t : ℤ) : Type 0 where
  pub not_before : b.time ≤ℤ t
  pub until : IsUntil b.latest t

-- to alight there
abbrev pub alight_entry : Ready → Call → Entry
alight_entry b call = record { stop = call.stop; departure = b.departure; rides = b.rides; time = call.arrival; penalty = b.penalty }

-- to be ready there at a time
abbrev pub ready_entry : Ready → ℤ → Entry
ready_entry b t = record { stop = b.stop; departure = b.departure; rides = b.rides; time = t; penalty = b.penalty }

abbrev pub node_at : Ready → LanePlace → (row to : ℕ) → Call → Node
node_at b at row to call = record {
  stop = call.stop;
  departure = b.departure;
  rides = b.rides;
  time = call.arrival;
  penalty = b.penalty;
  parent = b.parent;
  walk = b.walk;
  block = at.block;
  lane = at.lane;
  row = row;
  board = at.position;
  alight = to;
}

-- the row may be boarded at the position, in time
pub record IsBoarded (lane : LaneOf) (b : Ready) (position row : ℕ) : Type 0 where
  pub run : Run
  pub run_is : slice_get lane.runs row ≡ Some run
  pub board : Call
  pub board_is : slice_get run.calls position ≡ Some board
  pub stop_is : board.stop ≡ b.stop
  pub may : IsTrue board.board
  pub in_time : IsInTime b board.departure

-- ---- what is to be settled

-- to alight from the row at a position behind the boarding
pub record AlightsAt (lane : LaneOf) (b : Ready) (position row to : ℕ) (e : Entry) : Type 0 where
  pub run : Run
  pub run_is : slice_get lane.runs row ≡ Some run
  pub after : position < to
  pub alight : Call
  pub alight_is : slice_get run.calls to ≡ Some alight
  pub may : IsTrue alight.alight
  pub entry_is : e ≡ alight_entry b alight

-- to alight from some row of the lane that is boarded at the position, in time
pub record Catches (lane : LaneOf) (b : Ready) (position : ℕ) (e : Entry) : Type 0 where
  pub row : ℕ
  pub run : Run
  pub run_is : slice_get lane.runs row ≡ Some run
  pub to : ℕ
  pub name : RunName
  pub board : Call
  pub alight : Call
  pub ride : IsRideOn run position to name board alight
  pub in_time : IsInTime b board.departure
  pub entry_is : e ≡ alight_entry b alight

-- the same of the lane with this number, and of a place of the stop
abbrev pub CatchesIn : List LaneOf → Ready → (position number : ℕ) → Entry → Type 0
CatchesIn lanes b position number e = (lane : LaneOf) × (slice_get lanes number ≡ Some lane) × Catches lane b position e

abbrev pub CatchesAt : List (List LaneOf) → Ready → BlockStop → Entry → Type 0
CatchesAt blocks b place e = (lanes : List LaneOf) × (slice_get blocks place.block ≡ Some lanes) × FromBelow (CatchesIn lanes b place.position) (length lanes) e

-- to alight from any ride of the schedule that is boarded at the stop, in time
pub record Boards (runs : List Run) (b : Ready) (e : Entry) : Type 0 where
  pub hop : Hop
  pub ride : IsHop runs hop
  pub stop_is : hop.board.stop ≡ b.stop
  pub in_time : IsInTime b hop.board.departure
  pub entry_is : e ≡ alight_entry b hop.alight

-- ---- the labels that come of it

-- the label is of a ride on this lane, with this number in this block
pub record IsRiddenOn (lane : LaneOf) (b : Ready) (block number : ℕ) (n : Node) : Type 0 where
  pub block_is : n.block ≡ block
  pub lane_is : n.lane ≡ number
  pub run : Run
  pub run_is : slice_get lane.runs n.row ≡ Some run
  pub name : RunName
  pub board : Call
  pub alight : Call
  pub ride : IsRideOn run n.board n.alight name board alight
  pub stop_is : board.stop ≡ b.stop
  pub in_time : IsInTime b board.departure
  pub entry_is : entry_of n ≡ alight_entry b alight
  pub parent_is : n.parent ≡ b.parent
  pub walk_is : n.walk ≡ b.walk

-- on some lane of the block, and of some block
abbrev pub IsRiddenIn : List LaneOf → Ready → ℕ → Node → Type 0
IsRiddenIn lanes b block n = (lane : LaneOf) × (slice_get lanes n.lane ≡ Some lane) × IsRiddenOn lane b block n.lane n

abbrev pub IsRiddenInBlock : List LaneOf → Ready → ℕ → Node → Type 0
IsRiddenInBlock lanes b block n = (n.block ≡ block) × IsRiddenIn lanes b n.block n

abbrev pub IsRidden : List (List LaneOf) → Ready → Node → Type 0
IsRidden blocks b n = (lanes : List LaneOf) × (slice_get blocks n.block ≡ Some lanes) × IsRiddenIn lanes b n.block n

-- ---- who is ready

-- after the access, for a ride that departs as the journey has to
abbrev pub ready_at : Request → ℤ → Reach → Ready
ready_at r departure reach = record {
  stop = reach.stop;
  time = departure +ℤ pos reach.seconds;
  latest = Some (departure +ℤ pos reach.seconds);
  departure = departure;
  rides = 1;
  penalty = hop_penalty r reach.seconds;
  parent = None;
  walk = reach.seconds;
}

-- after an edge
abbrev pub ready_by : Request → ℕ → Node → Edge → Ready
ready_by r i n edge = record {
  stop = edge.to;
  time = n.time +ℤ pos (max (edge.walk + r.slack) edge.minimum);
  latest = None;
  departure = n.departure;
  rides = n.rides + 1;
  penalty = n.penalty + hop_penalty r edge.walk;
  parent = Some i;
  walk = edge.walk;
}

-- where a label stands
abbrev pub standing_of : Node → Standing
standing_of n = record { stop = n.stop; departure = n.departure; rides = n.rides; time = n.time; penalty = n.penalty }

-- where someone who is ready stands at a time
abbrev pub standing_at : Ready → ℤ → Standing
standing_at b t = record { stop = b.stop; departure = b.departure; rides = b.rides; time = t; penalty = b.penalty }

-- ---- ranges

-- what a hop costs at most beyond 100 for each second
abbrev pub most_hop : ℕ
most_hop = 2 ^ 43

-- how far from 1970 a journey departs at most
abbrev pub most_departure : ℕ
most_departure = 2 ^ 43

pub record IsNodeInRange (r : Request) (n : Node) : Type 0 where
  pub some : 1 ≤ n.rides
  pub few : n.rides ≤ r.rides
  pub departs : neg_ℤ (pos most_departure) ≤ℤ n.departure
  pub arrives : IsTime n.time
  pub forward : n.departure ≤ℤ n.time
  pub little : n.penalty ≤ n.rides * most_hop

pub record IsReadyInRange (r : Request) (b : Ready) : Type 0 where
  pub numbers : IsRequestInRange r
  pub some : 1 ≤ b.rides
  pub few : b.rides ≤ r.rides
  pub departs : neg_ℤ (pos most_departure) ≤ℤ b.departure
  pub forward : b.departure ≤ℤ b.time
  pub soon : b.time ≤ℤ pos most_departure
  pub little : b.penalty ≤ b.rides * most_hop

-- after this access
pub record IsReadyFor (r : Request) (departure : ℤ) (reach : Reach) (b : Ready) : Type 0 where
  pub ready_is : b ≡ ready_at r departure reach
  pub range : IsReadyInRange r b

-- a lane whose rows may be searched
pub record IsTimelyLane (lane : LaneOf) : Type 0 where
  pub is_lane : IsLane lane
  pub timely : All IsTimely lane.runs

-- each lane's rows call at the stop at this position
pub record StopsAt (position stop : ℕ) (lane : LaneOf) : Type 0 where
  pub spot : Spot
  pub spot_is : slice_get lane.pattern position ≡ Some spot
  pub stop_is : spot.stop ≡ stop
