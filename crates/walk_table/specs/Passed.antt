-- Which rows of `transfers.txt` hold for no pair of stops, and how many these are.
use Rattle.std.specs.Prelude.{◌≡◌, ◌⊎◌, ℕ, ◌+◌, ◌*◌, ◌<◌, ◌≤◌, List, [], ◌∷◌, Option, Some, length, slice_get}
use Rattle.std.specs.List.{Any}
use Rattle.otp_model.specs.declared.links.TransferRow.{TransferRow}
use Rattle.otp_model.specs.declared.timetable.Point.{Point}
use Rattle.otp_model.specs.declared.timetable.Stop.{Stop}
use Rattle.otp_model.specs.Limits.{most_reach}
use Rattle.otp_model.specs.Plane.{point_of, square_apart}
use Rattle.walk_table.specs.Edges.{Holds, IsMeant}

-- the row holds for some pair of stops
pub record HoldsSomewhere (stops : List Stop) (row : TransferRow) : Type 0 where
  pub p : ℕ
  pub from : Stop
  pub from_is : slice_get stops p ≡ Some from
  pub q : ℕ
  pub to : Stop
  pub to_is : slice_get stops q ≡ Some to
  pub holds : Holds stops p from q to row

-- A row that holds for no pair is passed over: one of type 4 or 5, one that is narrowed to a route or trip, one
-- with an empty stop or a stop that is an entrance, a node or a boarding area, one with a station that has no
-- child, and one of type 0 to 2 whose pairs are all farther apart than 5,000,000 mm.
abbrev pub IsPassedOver : List Stop → TransferRow → Type 0
IsPassedOver stops row = HoldsSomewhere stops row → ⊥

-- so many elements have P, each place of the list counted
abbrev pub Counts : {X : Type 0} → (X → Type 0) → List X → ℕ → Type 0
Counts P [] n = n ≡ 0
Counts P (x ∷ xs) n = ((P x → ⊥) × Counts P xs n) ⊎ (P x × ((m : ℕ) × (n ≡ m + 1) × Counts P xs m))

-- a point of a stop that a row means
pub record HasMeantPoint (stops : List Stop) (side : Option ℕ) (point : Point) : Type 0 where
  pub n : ℕ
  pub stop : Stop
  pub stop_is : slice_get stops n ≡ Some stop
  pub meant : IsMeant stops side n stop
  pub point_is : point ≡ point_of stop

-- two points at most 5,000,000 mm apart
abbrev pub IsNear : Point → Point → Type 0
IsNear p q = square_apart p q ≤ most_reach * most_reach

abbrev pub IsNearSome : List Point → Point → Type 0
IsNearSome points p = Any (IsNear p) points

abbrev pub AreBothFilled : List Point → List Point → Type 0
AreBothFilled from to = (0 < length from) × (0 < length to)
