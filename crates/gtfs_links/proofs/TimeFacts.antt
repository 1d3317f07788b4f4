-- The calls by number, row by row.
use Rattle.std.proofs.Common.{◌≡◌, ℕ, ◌+◌, ◌<◌, ◌≤◌, Bool, true, false, not, ◌&&◌, None, Some, refl, List, ◌∷◌, ◌++◌, length, get_or, drop, sym, ◌∙◌, append_assoc}
use Rattle.std.specs.Option.{option_to_list}
use Rattle.std.proofs.lemmas.List.{append-nil, drop_all, drop_more}
use Rattle.otp_model.specs.declared.links.TimeRow.{TimeRow}
use Rattle.otp_model.specs.declared.tables.StopRow.{StopRow}
use Rattle.otp_model.specs.declared.tables.StopTimeRow.{StopTimeRow}
use Rattle.std.specs.Prelude.{if◌then◌else◌}
use Rattle.otp_model.specs.Sights.{has_name, place_of}
use Rattle.gtfs_links.specs.Kept.{number_in, placed_time}
use Rattle.gtfs_links.specs.Linked.{time_at, time_if, times_from}
use Rattle.gtfs_links.specs.Rules.{is_empty}

module _ (stops : List StopRow) (ids trips : List (List ℕ)) (rows : List StopTimeRow) where
  pub times_more : (i : ℕ) (row : StopTimeRow) (before now total : List TimeRow) → i < length rows → row ≡ get_or rows i row → now ≡ before ++ option_to_list (time_if stops ids trips (i + 1) row)
      → before ++ times_from stops ids trips (i + 1) (drop i rows) ≡ total → now ++ times_from stops ids trips (i + 1 + 1) (drop (i + 1) rows) ≡ total
  unfolding times_from
  times_more i row before now total l e n h =
      let cut : drop i rows ≡ row ∷ drop (i + 1) rows = rw (← e) at (drop_more rows i row l) in
      let one = rw cut at h in
      rw n (append_assoc before (option_to_list (time_if stops ids trips (i + 1) row)) (times_from stops ids trips (i + 1 + 1) (drop (i + 1) rows)) ∙ one)

  pub times_done : (i : ℕ) (now total : List TimeRow) → length rows ≤ i → now ++ times_from stops ids trips (i + 1) (drop i rows) ≡ total → now ≡ total
  unfolding times_from
  times_done i now total l h = let done = rw (drop_all i rows l) at h in sym (append-nil now) ∙ done

-- a row by numbers is that row by names
pub time_is : (stops : List StopRow) (ids trips : List (List ℕ)) (n : ℕ) (row : StopTimeRow) → placed_time stops n (number_in trips row.trip_id) (place_of ids row.stop_id) row ≡ time_if stops ids trips n row
time_is stops ids trips n row = by (has_name trips row.trip_id)
  where
    by : (kept : Bool) → placed_time stops n (if kept then Some (place_of trips row.trip_id) else None) (place_of ids row.stop_id) row ≡ (if not (is_empty row.stop_id) && kept then Some (time_at stops ids trips n row) else None)
    by false = none (is_empty row.stop_id)
      where
        none : (b : Bool) → None ≡ (if not b && false then Some (time_at stops ids trips n row) else None)
        none true = refl
        none false = refl
    by true = some (is_empty row.stop_id)
      where
        some : (b : Bool) → (if b then None else Some (time_at stops ids trips n row)) ≡ (if not b && true then Some (time_at stops ids trips n row) else None)
        some true = refl
        some false = refl
