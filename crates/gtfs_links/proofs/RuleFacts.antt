-- What a rule says of a row's key.
use Rattle.std.proofs.Common.{◌≡◌, ℕ, List, Bool, true, false, None, refl}
use Rattle.otp_model.specs.declared.tables.StopRow.{StopRow}
use Rattle.otp_model.specs.declared.tables.TripRow.{TripRow}
use Rattle.gtfs_links.specs.declared.check.wrong.Column.{Column}
use Rattle.gtfs_links.specs.Rules.{repeat_wrong, stop_wrong, trip_wrong, wrong_call, wrong_start}

-- where nothing is wrong with a row, no earlier one has its key
pub repeat_none : (column : Column) (repeated : Bool) → repeat_wrong column repeated ≡ None → repeated ≡ false
repeat_none column true h = cc h
repeat_none column false h = refl

pub stop_none : (repeated : Bool) (known : List ℕ → Bool) (row : StopRow) → stop_wrong repeated known row ≡ None → repeated ≡ false
stop_none true known row h = cc h
stop_none false known row h = refl

pub trip_none : (repeated : Bool) (routes services : List ℕ → Bool) (row : TripRow) → trip_wrong repeated routes services row ≡ None → repeated ≡ false
trip_none true routes services row h = cc h
trip_none false routes services row h = refl

pub call_none : (repeated has_trip unknown_stop : Bool) → wrong_call repeated has_trip unknown_stop ≡ None → repeated ≡ false
call_none true has_trip unknown_stop h = cc h
call_none false has_trip unknown_stop h = refl

pub start_none : (repeated has_trip : Bool) → wrong_start repeated has_trip ≡ None → repeated ≡ false
start_none true has_trip h = cc h
start_none false has_trip h = refl

-- and its trip and its stop are there
pub call_known : (repeated has_trip unknown_stop : Bool) → wrong_call repeated has_trip unknown_stop ≡ None → has_trip ≡ true
call_known true has_trip unknown_stop h = cc h
call_known false true unknown_stop h = refl
call_known false false unknown_stop h = cc h

pub call_placed : (repeated has_trip unknown_stop : Bool) → wrong_call repeated has_trip unknown_stop ≡ None → unknown_stop ≡ false
call_placed true has_trip unknown_stop h = cc h
call_placed false true true h = cc h
call_placed false true false h = refl
call_placed false false unknown_stop h = cc h

pub start_known : (repeated has_trip : Bool) → wrong_start repeated has_trip ≡ None → has_trip ≡ true
start_known true has_trip h = cc h
start_known false true h = refl
start_known false false h = cc h
