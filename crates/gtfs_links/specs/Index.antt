-- Indexes of ids.
use Rattle.std.specs.Prelude.{◌≡◌, ℕ, ◌<◌, ◌^◌, List, ◌++◌, length, map, true}
use Rattle.otp_model.specs.Services.{services_of}
use Rattle.otp_model.specs.Sights.{first_sights, has_name}
use Rattle.otp_model.specs.declared.tables.CalendarRow.{CalendarRow}
use Rattle.otp_model.specs.declared.tables.DateRow.{DateRow}
use Rattle.otp_model.specs.declared.tables.FrequencyRow.{FrequencyRow}
use Rattle.otp_model.specs.declared.tables.RouteRow.{RouteRow}
use Rattle.otp_model.specs.declared.tables.StopTimeRow.{StopTimeRow}
use Rattle.otp_model.specs.declared.tables.Tables.{Tables}
use Rattle.gtfs_links.specs.declared.indexes.Indexes.{Indexes}
use Rattle.gtfs_links.specs.Rules.{id_of_stop, id_of_trip}

-- the ids, and maybe further ones, each once in the order of first sight
pub record IsIndexOf (ids names : List (List ℕ)) : Type 0 where
  pub more : List (List ℕ)
  pub names_are : names ≡ first_sights (ids ++ more)

abbrev pub id_of_route : RouteRow → List ℕ
id_of_route row = row.route_id

abbrev pub id_of_calendar : CalendarRow → List ℕ
id_of_calendar row = row.service_id

pub record AreIndexes (tables : Tables) (indexes : Indexes) : Type 0 where
  pub stops : indexes.stops ≡ first_sights (map id_of_stop tables.stops)
  pub routes : indexes.routes ≡ first_sights (map id_of_route tables.routes)
  pub trips : indexes.trips ≡ first_sights (map id_of_trip tables.trips)
  pub services : indexes.services ≡ services_of tables

-- the numbers of all ids have 32 bits
pub record AreFew (indexes : Indexes) : Type 0 where
  pub stops : length indexes.stops < 2 ^ 32
  pub routes : length indexes.routes < 2 ^ 32
  pub trips : length indexes.trips < 2 ^ 32
  pub services : length indexes.services < 2 ^ 32

abbrev pub service_of_date : DateRow → List ℕ
service_of_date row = row.service_id

abbrev pub trip_of_time : StopTimeRow → List ℕ
trip_of_time row = row.trip_id

abbrev pub stop_of_time : StopTimeRow → List ℕ
stop_of_time row = row.stop_id

abbrev pub trip_of_frequency : FrequencyRow → List ℕ
trip_of_frequency row = row.trip_id

-- the names have the id of the row
abbrev pub HasId : {R : Type 0} → List (List ℕ) → (R → List ℕ) → R → Type 0
HasId names id_of row = has_name names (id_of row) ≡ true
