-- The points of a place, and the stops that are reached from them.
use Rattle.std.specs.Prelude.{◌≡◌, ◌↔◌, ℕ, List, Some, slice_get}
use Rattle.std.specs.List.{Contains}
use Rattle.otp_model.specs.declared.timetable.Edges.{Edges}
use Rattle.otp_model.specs.declared.timetable.Point.{Point}
use Rattle.otp_model.specs.declared.timetable.Profile.{Profile}
use Rattle.otp_model.specs.declared.timetable.Stop.{Stop}
use Rattle.otp_model.specs.declared.journey.Place.{Place}
use Rattle.otp_model.specs.Plane.{IsPlatform, IsReached, point_of}
use Rattle.walk_table.specs.declared.reach.Reach.{Reach}
use Rattle.walk_table.specs.Walks.{IsLeastWalk}

-- the list has each stop that is reached from the place, with its seconds, and nothing else
abbrev pub AreReached : Edges → Place → List Reach → Type 0
AreReached edges place list = (reach : Reach) → Contains list reach ↔ IsReached edges place reach.stop reach.seconds

-- the point of a stop or platform whose parent is the station
abbrev pub IsChildPoint : ℕ → Stop → Point → Type 0
IsChildPoint station stop p = IsPlatform stop × (stop.parent ≡ Some station) × (p ≡ point_of stop)

-- the stop is a stop or platform, and the least walk from one of the points takes the seconds
abbrev pub IsReachAt : Profile → List Point → ℕ → Stop → Reach → Type 0
IsReachAt profile points number stop reach =
    IsPlatform stop × (reach.stop ≡ number) × IsLeastWalk profile points (point_of stop) (Some reach.seconds)

-- the same of the stop with this number
abbrev pub IsReachOf : Profile → List Point → List Stop → ℕ → Reach → Type 0
IsReachOf profile points stops n reach = (stop : Stop) × (slice_get stops n ≡ Some stop) × IsReachAt profile points n stop reach
