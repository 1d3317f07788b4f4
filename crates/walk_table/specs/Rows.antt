-- The transfer rows that hold for the ways from one stop, and what of them a stop finds that they lead to.
use Rattle.std.specs.Prelude.{◌≡◌, ℕ, ◌≤◌, ◌⊎◌, false, List}
use Rattle.std.specs.List.{Any, Contains}
use Rattle.otp_model.specs.declared.links.TransferRow.{TransferRow}
use Rattle.otp_model.specs.declared.timetable.Edge.{Edge}
use Rattle.otp_model.specs.declared.timetable.Profile.{Profile}
use Rattle.otp_model.specs.declared.timetable.Stop.{Stop}
use Rattle.otp_model.specs.Transfers.{Bars}
use Rattle.walk_table.specs.Edges.{AreInReach, AreNear, IsEdgeUnder, IsMeant, minimum_of}

-- the row is wide, of type 0 to 3, and leads from the stop
abbrev pub Leaves : List Stop → ℕ → Stop → TransferRow → Type 0
Leaves stops p from row = (row.narrow ≡ false) × (row.kind ≤ 3) × IsMeant stops row.from p from

-- a row that leaves is one of the rows
abbrev pub IsLeaving : List Stop → ℕ → Stop → TransferRow → TransferRow → Type 0
IsLeaving stops p from row found = (row ≡ found) × Leaves stops p from row

abbrev pub Arrives : List Stop → ℕ → Stop → TransferRow → Type 0
Arrives stops q to row = IsMeant stops row.to q to

-- the row bars the way to the stop
abbrev pub BarsWayTo : List Stop → ℕ → Stop → TransferRow → Type 0
BarsWayTo stops q to row = Bars row × Arrives stops q to row

-- the least time of a row that leads to the stop
abbrev pub IsMinimum : List Stop → ℕ → Stop → TransferRow → ℕ → Type 0
IsMinimum stops q to row m = Arrives stops q to row × (minimum_of row ≡ m)

-- one of the rows that leave leads to the stop
abbrev pub IsAmong : List Stop → List TransferRow → Stop → ℕ → Stop → TransferRow → Type 0
IsAmong stops rows from q to row = Contains rows row × Arrives stops q to row × (Bars row ⊎ AreNear from to)

-- an edge to the stop with the number q, by the rows that leave
abbrev pub IsEdgeTo : List Stop → List TransferRow → Profile → ℕ → Stop → ℕ → Stop → Edge → Type 0
IsEdgeTo stops rows profile p from q to edge = (edge.to ≡ q) × IsEdgeUnder (IsAmong stops rows from q to) profile p from to edge

-- what gives an edge to the stop with the number q
abbrev pub IsGiven : List Stop → List TransferRow → Profile → ℕ → Stop → ℕ → Stop → Type 0
IsGiven stops rows profile p from q to = (p ≡ q) ⊎ AreInReach profile from to ⊎ Any (Arrives stops q to) rows
