-- The kinds of transfers, by `transfer_type` (GTFS Schedule reference, `transfers.txt`).
use Rattle.std.specs.Prelude.{◌≡◌, ◌<◌}
use Rattle.otp_model.specs.declared.links.TransferRow.{TransferRow}

-- a change takes at least min_transfer_time
abbrev pub HasMinimum : TransferRow → Type 0
HasMinimum row = row.kind ≡ 2

-- no change is possible
abbrev pub Bars : TransferRow → Type 0
Bars row = row.kind ≡ 3

-- passengers may, or may not, stay in their seats while the vehicle takes up another trip
abbrev pub IsInSeat : TransferRow → Type 0
IsInSeat row = 3 < row.kind
