-- Runs of one pattern and day.
use Rattle.std.proofs.Common.{◌≡◌, ℕ, ◌<◌, List, length, map, get_or, sym, ap, ◌∙◌, arith}
use Rattle.std.proofs.lemmas.List.{get_or-map}
use Rattle.otp_model.specs.Patterns.{Spot, spot_of}
use Rattle.otp_model.specs.declared.timetable.Call.{Call}
use Rattle.trip_patterns.proofs.CallLemmas.{no_spot}
use Rattle.trip_patterns.proofs.RowLemmas.{no_call}

-- calls of one pattern have one spot at each position
pub same_spots : (calls others : List Call) (k : ℕ) → k < length calls → length others ≡ length calls → map spot_of others ≡ map spot_of calls
    → spot_of (get_or others k no_call) ≡ spot_of (get_or calls k no_call)
same_spots calls others k less wide same =
    sym (get_or-map spot_of others k no_call no_spot (omega arith)) ∙ ap (λ (xs : List Spot). get_or xs k no_spot) same
    ∙ get_or-map spot_of calls k no_call no_spot less
