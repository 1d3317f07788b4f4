-- Beginnings of journeys, as a search by rounds makes them: rides, each with the walk before it, the last
-- ride first. What a beginning costs beyond 100 for each second is its penalty.
use Rattle.std.specs.Prelude.{ℕ, ◌+◌, ◌-◌, ◌*◌, ℤ, pos, ◌+ℤ◌, ◌-ℤ◌, ◌*ℤ◌, List, [], ◌∷◌}
use Rattle.otp_model.specs.Limits.{least_walk_points}
use Rattle.otp_model.specs.declared.timetable.Call.{Call}
use Rattle.otp_model.specs.declared.run_name.RunName.{RunName}
use Rattle.otp_model.specs.declared.timetable.Run.{Run}
use Rattle.otp_model.specs.declared.timetable.Edges.{Edges}
use Rattle.otp_model.specs.declared.journey.Request.{Request}
use Rattle.otp_model.specs.declared.journey.Leg.{Leg}
use Rattle.otp_model.specs.declared.journey.Leg.TheVariants.{Walk, Ride}
use Rattle.otp_model.specs.Plane.{IsReached}
use Rattle.otp_model.specs.Journeys.{IsRide, IsTransfer}

-- a ride, and the seconds walked before it
pub record Hop : Type 0 where
  pub walk : ℕ
  pub name : RunName
  pub board : Call
  pub alight : Call

abbrev pub IsHop : List Run → Hop → Type 0
IsHop runs h = IsRide runs h.name h.board h.alight

-- A beginning of a journey: the access and a ride, then each time a transfer and a ride.
abbrev pub IsBeginning : List Run → Edges → Request → List Hop → Type 0
IsBeginning runs edges r [] = ⊥
IsBeginning runs edges r (h ∷ []) = IsReached edges r.from h.board.stop h.walk × IsHop runs h
IsBeginning runs edges r (h ∷ g ∷ hops) =
    IsTransfer edges r.slack g.alight h.board h.walk × IsHop runs h × IsBeginning runs edges r (g ∷ hops)

-- the legs of a beginning, before others
abbrev pub legs_onto : List Hop → List Leg → List Leg
legs_onto [] legs = legs
legs_onto (h ∷ hops) legs = legs_onto hops (Walk h.walk ∷ Ride h.name h.board h.alight ∷ legs)

-- when the first ride departs, less the access
abbrev pub departs : List Hop → ℤ
departs [] = pos 0
departs (h ∷ []) = h.board.departure -ℤ pos h.walk
departs (h ∷ g ∷ hops) = departs (g ∷ hops)

-- the seconds walked
abbrev pub walked : List Hop → ℕ
walked [] = 0
walked (h ∷ hops) = h.walk + walked hops

-- what a walk costs beyond 100 for each second, and a ride after it
abbrev pub walk_penalty : Request → ℕ → ℕ
walk_penalty r seconds = (r.walk_points - least_walk_points) * seconds

abbrev pub hop_penalty : Request → ℕ → ℕ
hop_penalty r walk = walk_penalty r walk + r.board_points

abbrev pub penalty : Request → List Hop → ℕ
penalty r [] = 0
penalty r (h ∷ hops) = penalty r hops + hop_penalty r h.walk

-- the cost at a time after a departure, at a penalty
abbrev pub cost_at : (departure time : ℤ) (points : ℕ) → ℤ
cost_at departure time points = (pos 100 *ℤ (time -ℤ departure)) +ℤ pos points
