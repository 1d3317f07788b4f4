-- The walk from one place to another without a ride.
use Rattle.std.specs.Prelude.{ℕ, ◌≤◌, Option, MatchOption}
use Rattle.otp_model.specs.declared.timetable.Edges.{Edges}
use Rattle.otp_model.specs.declared.timetable.Point.{Point}
use Rattle.otp_model.specs.declared.journey.Place.{Place}
use Rattle.otp_model.specs.declared.timetable.Profile.{Profile}
use Rattle.otp_model.specs.declared.timetable.Stop.{Stop}
use Rattle.otp_model.specs.Plane.{HasPoint}
use Rattle.walk_table.specs.Reaches.{IsChildPoint}
use Rattle.walk_table.specs.Walks.{IsWalkTo}

-- the least number of some, if there is one
abbrev pub IsLeast : (ℕ → Type 0) → Option ℕ → Type 0
IsLeast P o = MatchOption o ((n : ℕ) → P n → ⊥) (λ least. P least × ((n : ℕ) → P n → least ≤ n))

-- a walk from a point to a point of the place, within reach
abbrev pub IsWalkInto : Edges → Point → Place → ℕ → Type 0
IsWalkInto edges p to seconds = (q : Point) × HasPoint edges.stops to q × IsWalkTo edges.profile p q seconds

-- a walk from a point of the one place to a point of the other, within reach
abbrev pub IsDirectWalk : Edges → Place → Place → ℕ → Type 0
IsDirectWalk edges from to seconds = (p : Point) × HasPoint edges.stops from p × IsWalkInto edges p to seconds

-- the least seconds of a direct walk, if there is one
abbrev pub IsDirect : Edges → Place → Place → Option ℕ → Type 0
IsDirect edges from to seconds = IsLeast (IsDirectWalk edges from to) seconds

-- a walk from a point to the point of a child of the station
abbrev pub IsWalkIntoChild : Profile → Point → ℕ → Stop → ℕ → Type 0
IsWalkIntoChild profile p station stop seconds = (q : Point) × IsChildPoint station stop q × IsWalkTo profile p q seconds

-- a direct walk from the point of a child of the station
abbrev pub IsDirectFromChild : Edges → ℕ → Place → Stop → ℕ → Type 0
IsDirectFromChild edges station to stop seconds = (p : Point) × IsChildPoint station stop p × IsWalkInto edges p to seconds
