-- When there are too many edges. Want of memory is free.
use Rattle.std.specs.Prelude.{ℕ, ◌<◌, ◌≤◌, List, Option, IsSome, length}
use Rattle.std.specs.List.{Contains}
use Rattle.otp_model.specs.declared.links.TransferRow.{TransferRow}
use Rattle.otp_model.specs.declared.timetable.Edge.{Edge}
use Rattle.otp_model.specs.declared.timetable.Profile.{Profile}
use Rattle.otp_model.specs.declared.timetable.Stop.{Stop}
use Rattle.otp_model.specs.Limits.{most_edges}
use Rattle.walk_table.specs.declared.fault.EdgesFault.{EdgesFault}
use Rattle.walk_table.specs.declared.fault.EdgesFault.TheVariants.{TooMany, Memory}
use Rattle.walk_table.specs.Edges.{AreRising, HasMoreEdges, IsEdge}

-- too many are more than 100,000,000
abbrev pub IsCause : List Stop → List TransferRow → Profile → EdgesFault → Type 0
IsCause stops rows profile TooMany = HasMoreEdges most_edges stops rows profile
IsCause stops rows profile Memory = Unit {0}

-- there are more edges from the stop with the number p than so many
abbrev pub HasMoreFrom : ℕ → List Stop → List TransferRow → Profile → ℕ → Type 0
HasMoreFrom room stops rows profile p =
    (list : List Edge) × AreRising list × ((edge : Edge) → Contains list edge → IsEdge stops rows profile p edge) × (room < length list)

abbrev pub IsCauseFrom : List Stop → List TransferRow → Profile → ℕ → ℕ → EdgesFault → Type 0
IsCauseFrom stops rows profile p room TooMany = HasMoreFrom room stops rows profile p
IsCauseFrom stops rows profile p room Memory = Unit {0}

-- there is an edge, and the list has no room for it
abbrev pub IsOverfull : List Edge → Option Edge → ℕ → EdgesFault → Type 0
IsOverfull list edge room TooMany = IsSome edge × (room ≤ length list)
IsOverfull list edge room Memory = Unit {0}
