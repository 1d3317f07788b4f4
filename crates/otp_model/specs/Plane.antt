-- Points on the plane, distances, and which stops are reached on foot from a place. Stations and their
-- children are those of `stops.txt` in the GTFS Schedule reference; the plane and the seconds of a walk
-- are this project's own.
use Rattle.std.specs.Prelude.{◌≡◌, ◌⊎◌, ℕ, ℤ, pos, ◌+◌, ◌*◌, ◌<◌, ◌≤◌, ◌-ℤ◌, ◌*ℤ◌, unsigned_abs, List, Some, length, slice_get}
use Rattle.std.specs.List.{Contains}
use Rattle.std.specs.Int.{div_ceil, int_div_euclid}
use Rattle.otp_model.specs.Limits.{most_scale}
use Rattle.otp_model.specs.declared.timetable.Point.{Point}
use Rattle.otp_model.specs.declared.timetable.Stop.{Stop}
use Rattle.otp_model.specs.declared.timetable.Edges.{Edges}
use Rattle.otp_model.specs.declared.journey.Place.{Place}
use Rattle.otp_model.specs.declared.journey.Place.TheVariants.{Stop as AtStop, At as AtPoint}

-- By its `location_type` a row of `stops.txt` is a stop or platform, where vehicles are boarded and left, a
-- station, or one of the two, which a query may name.
abbrev pub IsPlatform : Stop → Type 0
IsPlatform stop = stop.kind ≡ 0

abbrev pub IsStation : Stop → Type 0
IsStation stop = stop.kind ≡ 1

abbrev pub IsNameable : Stop → Type 0
IsNameable stop = stop.kind ≤ 1

abbrev pub point_of : Stop → Point
point_of stop = record { x = stop.x; y = stop.y }

-- the square of the distance of two points
abbrev pub square_apart : Point → Point → ℕ
square_apart p q =
    let dx = unsigned_abs (p.x -ℤ q.x) in
    let dy = unsigned_abs (p.y -ℤ q.y) in
    dx * dx + dy * dy

-- the distance: the least whole number whose square is at least that square
pub record IsDistance (square distance : ℕ) : Type 0 where
  pub enough : square ≤ distance * distance
  pub least : (d : ℕ) → square ≤ d * d → distance ≤ d

-- the seconds of a walk between two points: the distance over the speed, rounded up
pub record IsWalk (speed : ℕ) (p q : Point) (seconds : ℕ) : Type 0 where
  pub distance : ℕ
  pub is_distance : IsDistance (square_apart p q) distance
  pub seconds_are : seconds ≡ div_ceil distance speed

abbrev pub IsWithinReach : Edges → Point → Point → Type 0
IsWithinReach edges p q = square_apart p q ≤ edges.profile.reach * edges.profile.reach

-- a child of a station: a stop or platform whose parent the station is
pub record IsChild (stops : List Stop) (station : ℕ) (stop : Stop) : Type 0 where
  pub on : Contains stops stop
  pub kind : IsPlatform stop
  pub parent : stop.parent ≡ Some station

-- a stop that a place names: each child of a station, and any other stop itself
pub record NamesStop (stops : List Stop) (named : ℕ) (stop : Stop) : Type 0 where
  pub place : Stop
  pub place_is : slice_get stops named ≡ Some place
  pub stands : ((IsStation place → ⊥) × (stop ≡ place)) ⊎ (IsStation place × IsChild stops named stop)

-- the points of a place
abbrev pub HasPoint : List Stop → Place → Point → Type 0
HasPoint stops (AtStop named) p = (stop : Stop) × NamesStop stops named stop × (p ≡ point_of stop)
HasPoint stops (AtPoint x y) p = p ≡ record { x = x; y = y }

-- a walk between the place and a point, within reach
pub record IsWayTo (edges : Edges) (place : Place) (q : Point) (seconds : ℕ) : Type 0 where
  pub from : Point
  pub is_point : HasPoint edges.stops place from
  pub within : IsWithinReach edges from q
  pub walk : IsWalk edges.profile.speed from q seconds

-- The stops and platforms that are reached from a place, each with the least seconds. The way back
-- takes as long, so this is access to a journey and egress from it alike.
pub record IsReached (edges : Edges) (place : Place) (stop seconds : ℕ) : Type 0 where
  pub at : Stop
  pub at_is : slice_get edges.stops stop ≡ Some at
  pub kind : IsPlatform at
  pub way : IsWayTo edges place (point_of at) seconds
  pub least : (other : ℕ) → IsWayTo edges place (point_of at) other → seconds ≤ other

-- a place that names a stop names one of the list
abbrev pub IsPlaceOf : List Stop → Place → Type 0
IsPlaceOf stops (AtStop n) = n < length stops
IsPlaceOf stops (AtPoint x y) = Unit {0}

-- Where a latitude and a longitude in millionths of a degree stand: a millionth of a degree of latitude is
-- 111,195 (the greatest scale) thousandths of a millimetre long, one of longitude `scale`; rounded down.
abbrev pub point_at : ℕ → ℤ → ℤ → Point
point_at scale latitude longitude = record {
  x = int_div_euclid (longitude *ℤ pos scale) (pos 1000);
  y = int_div_euclid (latitude *ℤ pos most_scale) (pos 1000);
}
