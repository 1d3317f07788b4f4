-- The ends of journeys, from a ride on.
use Rattle.std.specs.Prelude.{◌≡◌, ℕ, ◌+◌, max, pos, ◌+ℤ◌, ◌≤ℤ◌, List, [], ◌∷◌, Some, slice_get}
use Rattle.otp_model.specs.declared.timetable.Edge.{Edge}
use Rattle.otp_model.specs.declared.timetable.Edges.{Edges}
use Rattle.otp_model.specs.declared.journey.Leg.{Leg}
use Rattle.otp_model.specs.declared.journey.Leg.TheVariants as leg
use Rattle.otp_model.specs.declared.timetable.Run.{Run}
use Rattle.otp_model.specs.declared.journey.Request.{Request}
use Rattle.otp_model.specs.Journeys.{IsRide, Follows, rides_of}
use Rattle.plain_search.specs.declared.rides.Ride.{Ride}
use Rattle.walk_table.specs.declared.reach.Reach.{Reach}
use Rattle.otp_base.specs.Adds.{FromSome}

-- a ride and a walk before other legs
abbrev pub legs_before : Ride → ℕ → List Leg → List Leg
legs_before ride seconds legs = leg.Ride ride.name ride.board ride.alight ∷ leg.Walk seconds ∷ legs

-- a last ride, and the walk to the place of arrival from its stop
abbrev pub IsLastTail : Ride → Reach → List Leg → Type 0
IsLastTail ride reach legs = (ride.alight.stop ≡ reach.stop) × (legs ≡ legs_before ride reach.seconds [])

-- the edge leads from the ride to the first ride of the legs, in time
abbrev pub Joins : ℕ → Ride → Edge → List Leg → Type 0
Joins slack ride edge [] = ⊥
Joins slack ride edge (leg.Walk seconds ∷ legs) = ⊥
Joins slack ride edge (leg.Ride name board alight ∷ legs) =
    (edge.to ≡ board.stop) × ((ride.alight.arrival +ℤ pos (max (edge.walk + slack) edge.minimum)) ≤ℤ board.departure)

-- a ride, and the walk of an edge that joins it to the legs
abbrev pub IsLonger : ℕ → Ride → List Leg → Edge → List Leg → Type 0
IsLonger slack ride tail edge legs = Joins slack ride edge tail × (legs ≡ legs_before ride edge.walk tail)

-- one of the edges of a list joins
abbrev pub IsLongerBy : ℕ → List Edge → Ride → List Leg → List Leg → Type 0
IsLongerBy slack row ride tail legs = FromSome (IsLonger slack ride tail) row legs

-- the ride stands before one of the tails
abbrev pub IsLongerFrom : ℕ → Edges → List (List Leg) → Ride → List Leg → Type 0
IsLongerFrom slack edges tails ride legs = (row : List Edge) × (slice_get edges.from ride.alight.stop ≡ Some row) × FromSome (IsLongerBy slack row ride) tails legs

-- the legs of a journey from a ride on
abbrev pub IsTail : List Run → Edges → Request → List Leg → Type 0
IsTail runs edges r (leg.Ride name board alight ∷ leg.Walk seconds ∷ legs) = IsRide runs name board alight × Follows runs edges r alight seconds legs
IsTail runs edges r _ = ⊥

-- with so many rides
abbrev pub IsTailOf : List Run → Edges → Request → ℕ → List Leg → Type 0
IsTailOf runs edges r n legs = (rides_of legs ≡ n) × IsTail runs edges r legs
