-- The edges between stops, and which rows of `transfers.txt` of the GTFS Schedule reference (`transfer_type`,
-- `min_transfer_time`) hold for which pairs of stops. That a walk is possible within reach, and that rows hold
-- up to 5,000,000 mm alone, are this project's own.
use Rattle.std.specs.Prelude.{◌≡◌, ◌⊎◌, ℕ, ◌*◌, ◌<◌, ◌≤◌, List, Option, Some, None, false, if◌then◌else◌, ◌==◌, length, slice_get, sum_by}
use Rattle.std.specs.List.{AllPairs, Contains}
use Rattle.otp_model.specs.declared.links.TransferRow.{TransferRow}
use Rattle.otp_model.specs.declared.timetable.Edge.{Edge}
use Rattle.otp_model.specs.declared.timetable.Edges.{Edges}
use Rattle.otp_model.specs.declared.timetable.Profile.{Profile}
use Rattle.otp_model.specs.declared.timetable.Stop.{Stop}
use Rattle.otp_base.specs.EachAt.{EachAt}
use Rattle.otp_model.specs.Limits.{most_reach}
use Rattle.otp_model.specs.Plane.{point_of, square_apart, IsPlatform, IsStation, IsWalk}
use Rattle.otp_model.specs.Transfers.{Bars}

abbrev pub IsStationAt : List Stop → ℕ → Type 0
IsStationAt stops n = (stop : Stop) × (slice_get stops n ≡ Some stop) × IsStation stop

-- The stop with the number n is one that a row means by the stop that it names: a stop or platform by itself,
-- a station by each of its children, and nothing else by any.
abbrev pub IsMeant : List Stop → Option ℕ → ℕ → Stop → Type 0
IsMeant stops None n stop = ⊥
IsMeant stops (Some named) n stop = IsPlatform stop × ((named ≡ n) ⊎ ((stop.parent ≡ Some named) × IsStationAt stops named))

-- at most 5,000,000 mm apart
abbrev pub AreNear : Stop → Stop → Type 0
AreNear from to = square_apart (point_of from) (point_of to) ≤ most_reach * most_reach

-- The row holds for the way from one stop to another: it is not narrowed to a route or trip, its type is one of
-- 0 to 3, it means the two, and unless it is of type 3 they are near.
pub record Holds (stops : List Stop) (p : ℕ) (from : Stop) (q : ℕ) (to : Stop) (row : TransferRow) : Type 0 where
  pub wide : row.narrow ≡ false
  pub kind : row.kind ≤ 3
  pub leaves : IsMeant stops row.from p from
  pub arrives : IsMeant stops row.to q to
  pub near : Bars row ⊎ AreNear from to

-- the least time of a change that a row asks for
abbrev pub minimum_of : TransferRow → ℕ
minimum_of row = if row.kind == 2 then row.minimum else 0

-- the greatest number of some, 0 where there is none
pub record IsGreatest (P : ℕ → Type 0) (n : ℕ) : Type 0 where
  pub enough : (m : ℕ) → P m → m ≤ n
  pub reached : (n ≡ 0) ⊎ P n

-- some of the rows asks for this least time
abbrev pub HasMinimum : (TransferRow → Type 0) → ℕ → Type 0
HasMinimum R m = (row : TransferRow) × R row × (minimum_of row ≡ m)

abbrev pub AreInReach : Profile → Stop → Stop → Type 0
AreInReach profile from to =
    IsPlatform from × IsPlatform to × (square_apart (point_of from) (point_of to) ≤ profile.reach * profile.reach)

-- An edge from one stop to another, where these rows hold between the two. It is there from each stop to itself,
-- between stops and platforms within reach, and where a row makes it; a row of type 3 takes it away. A walk from
-- a stop to itself takes 0 seconds.
pub record IsEdgeUnder (R : TransferRow → Type 0) (profile : Profile) (p : ℕ) (from to : Stop) (edge : Edge) : Type 0 where
  pub given : (p ≡ edge.to) ⊎ AreInReach profile from to ⊎ ((row : TransferRow) × R row)
  pub kept : (row : TransferRow) → R row → Bars row → ⊥
  pub walk : IsWalk profile.speed (point_of from) (point_of to) edge.walk
  pub minimum : IsGreatest (HasMinimum R) edge.minimum

-- an edge from the stop with the number p
pub record IsEdge (stops : List Stop) (rows : List TransferRow) (profile : Profile) (p : ℕ) (edge : Edge) : Type 0 where
  pub from : Stop
  pub from_is : slice_get stops p ≡ Some from
  pub to : Stop
  pub to_is : slice_get stops edge.to ≡ Some to
  pub under : IsEdgeUnder (λ row. Contains rows row × Holds stops p from edge.to to row) profile p from to edge

-- the edges lead to rising stops
abbrev pub AreRising : List Edge → Type 0
AreRising list = AllPairs (λ a b. a.to < b.to) list

-- all edges from the stop with the number p
pub record AreEdgesFrom (stops : List Stop) (rows : List TransferRow) (profile : Profile) (p : ℕ) (list : List Edge) : Type 0 where
  pub rises : AreRising list
  pub has : (edge : Edge) → IsEdge stops rows profile p edge → Contains list edge
  pub only : (edge : Edge) → Contains list edge → IsEdge stops rows profile p edge

-- the stops with all edges from each
pub record AreEdges (stops : List Stop) (rows : List TransferRow) (profile : Profile) (edges : Edges) : Type 0 where
  pub stops_are : edges.stops ≡ stops
  pub profile_is : edges.profile ≡ profile
  pub whole : length edges.from ≡ length stops
  pub each : EachAt (AreEdgesFrom stops rows profile) edges.from

-- how many edges there are
abbrev pub edge_count : List (List Edge) → ℕ
edge_count from = sum_by (λ list. length list) from

-- There are more edges than so many: for each stop, by its number, some edges from it, and these are more.
pub record HasMoreEdges (limit : ℕ) (stops : List Stop) (rows : List TransferRow) (profile : Profile) : Type 0 where
  pub from : List (List Edge)
  pub rise : EachAt (λ n list. AreRising list) from
  pub are : EachAt (λ n list. (edge : Edge) → Contains list edge → IsEdge stops rows profile n edge) from
  pub more : limit < edge_count from
