-- Labels, as a search keeps them, and the beginnings of journeys that they stand for.
use Rattle.std.specs.Prelude.{◌≡◌, ℕ, ◌+◌, ◌*◌, ◌<◌, pos, ◌+ℤ◌, ◌-ℤ◌, List, [], ◌∷◌, Option, Some, None, slice_get, unsigned_abs}
use Rattle.std.specs.List.{Contains}
use Rattle.otp_model.specs.declared.timetable.Run.{Run}
use Rattle.otp_model.specs.declared.timetable.Edges.{Edges}
use Rattle.otp_model.specs.declared.journey.Leg.{Leg}
use Rattle.otp_model.specs.declared.journey.Request.{Request}
use Rattle.otp_model.specs.declared.journey.Value.{Value}
use Rattle.otp_model.specs.Beginnings.{Hop, IsBeginning, walk_penalty}
use Rattle.otp_model.specs.Journeys.{HasValue, IsJourney, IsRideOn}
use Rattle.trip_patterns.specs.Lanes.{LaneOf}
use Rattle.walk_table.specs.declared.reach.Reach.{Reach}
use Rattle.raptor_rounds.specs.declared.node.Node.{Node}
use Rattle.raptor_rounds.specs.declared.node.Final.{Final}
use Rattle.raptor_rounds.specs.Closure.{Entry, End, entry_of_hops}

abbrev pub entry_of : Node → Entry
entry_of n = record { stop = n.stop; departure = n.departure; rides = n.rides; time = n.time; penalty = n.penalty }

abbrev pub end_of : Final → End
end_of f = record { departure = f.value.departure; arrival = f.value.arrival; rides = f.value.rides; cost = pos f.value.cost }

abbrev pub InArena : List Node → Entry → Type 0
InArena arena e = (i : ℕ) × (n : Node) × (slice_get arena i ≡ Some n) × (entry_of n ≡ e)

abbrev pub InFinals : List Final → End → Type 0
InFinals finals e = (f : Final) × Contains finals f × (end_of f ≡ e)

-- the ride that a label keeps: a row of a lane of a block, its calls at two positions, and the walk before it
pub record IsHopOf (blocks : List (List LaneOf)) (n : Node) (h : Hop) : Type 0 where
  pub lanes : List LaneOf
  pub lanes_are : slice_get blocks n.block ≡ Some lanes
  pub lane : LaneOf
  pub lane_is : slice_get lanes n.lane ≡ Some lane
  pub run : Run
  pub run_is : slice_get lane.runs n.row ≡ Some run
  pub ride : IsRideOn run n.board n.alight h.name h.board h.alight
  pub walk_is : h.walk ≡ n.walk

abbrev pub KeepsHop : List (List LaneOf) → Node → Type 0
KeepsHop blocks n = (hop : Hop) × IsHopOf blocks n hop

-- the label with this number keeps the ride, and has this parent
pub record IsLink (blocks : List (List LaneOf)) (arena : List Node) (i : ℕ) (h : Hop) (parent : Option ℕ) : Type 0 where
  pub node : Node
  pub node_is : slice_get arena i ≡ Some node
  pub hop : IsHopOf blocks node h
  pub parent_is : node.parent ≡ parent

-- from the label with this number on, parent by parent, the labels keep these rides
abbrev pub IsChain : List (List LaneOf) → List Node → ℕ → List Hop → Type 0
IsChain blocks arena i [] = ⊥
IsChain blocks arena i (h ∷ []) = IsLink blocks arena i h None
IsChain blocks arena i (h ∷ g ∷ hops) = (parent : ℕ) × (parent < i) × IsLink blocks arena i h (Some parent) × IsChain blocks arena parent (g ∷ hops)

-- some rides are kept so
abbrev pub HasChain : List (List LaneOf) → List Node → ℕ → Type 0
HasChain blocks arena i = (hops : List Hop) × IsChain blocks arena i hops

-- The label stands for a beginning of a journey: it has its numbers, and keeps its rides and walks.
pub record IsLabelOf (runs : List Run) (blocks : List (List LaneOf)) (edges : Edges) (r : Request) (arena : List Node) (i : ℕ) (n : Node) : Type 0 where
  pub last : Hop
  pub rest : List Hop
  pub begins : IsBeginning runs edges r (last ∷ rest)
  pub chain : IsChain blocks arena i (last ∷ rest)
  pub entry_is : entry_of n ≡ entry_of_hops r last rest

-- the legs are a journey of this value
pub record IsFound (runs : List Run) (edges : Edges) (r : Request) (v : Value) (legs : List Leg) : Type 0 where
  pub journey : IsJourney runs edges r legs
  pub has : HasValue r legs v

-- the journey of a label and an egress from its stop
abbrev pub final_by : Request → ℕ → Node → Reach → Final
final_by r i n reach =
    let arrival = n.time +ℤ pos reach.seconds in
    record {
      value = record { departure = n.departure; arrival = arrival; rides = n.rides; cost = 100 * unsigned_abs (arrival -ℤ n.departure) + (n.penalty + walk_penalty r reach.seconds) };
      label = i;
      egress = reach.seconds;
    }

-- the egress begins at the label's stop, and the final is theirs
abbrev pub IsFinalBy : Request → ℕ → Node → Reach → Final → Type 0
IsFinalBy r i n reach f = (reach.stop ≡ n.stop) × (f ≡ final_by r i n reach)

-- some label and some egress make the final
pub record IsFinal (r : Request) (egress : List Reach) (arena : List Node) (f : Final) : Type 0 where
  pub node : Node
  pub node_is : slice_get arena f.label ≡ Some node
  pub reach : Reach
  pub on : Contains egress reach
  pub is : IsFinalBy r f.label node reach f

-- each egress from the label's stop has made a final
abbrev pub HasFinals : Request → List Reach → List Final → ℕ → Node → Type 0
HasFinals r egress finals i n = (reach : Reach) → Contains egress reach → reach.stop ≡ n.stop → Contains finals (final_by r i n reach)
