-- The first fault of the whole feed, file by file, where ids are looked up in indexes.
use Rattle.std.proofs.Common.{◌≡◌, ℕ, ◌<◌, ◌^◌, length, length-append, List, [], ◌∷◌, ◌++◌, map, get_or, suc, zero, true, Option, Result, refl, sym, ap, subst, ◌∙◌, arith}
use Rattle.std.specs.List.{All}
use Rattle.std.specs.Str.{bytes_eq}
use Rattle.std.proofs.lemmas.List.{length-map}
use Rattle.name_index.proofs.SightFacts.{first_sights-shorter, has-first_sights}
use Rattle.name_index.proofs.TestFacts.{bytes_eq-refl, or-last}
use Rattle.otp_model.specs.Services.{service_ids, services_of}
use Rattle.otp_model.specs.Sights.{first_sights, has_name}
use Rattle.otp_model.specs.declared.feed_fault.FeedFault.{FeedFault}
use Rattle.otp_model.specs.declared.tables.CalendarRow.{CalendarRow}
use Rattle.otp_model.specs.declared.tables.Tables.{Tables}
use Rattle.gtfs_links.specs.declared.indexes.Indexes.{Indexes}
use Rattle.otp_model.specs.Rows.{AreTables}
use Rattle.otp_model.specs.declared.feed_fault.FeedFile.TheVariants as file
use Rattle.gtfs_links.specs.declared.check.wrong.Column.TheVariants as column
use Rattle.gtfs_links.specs.Faults.{Finds, first_of, first_wrong}
use Rattle.gtfs_links.specs.Index.{AreFew, AreIndexes, HasId, id_of_calendar, id_of_route, service_of_date}
use Rattle.gtfs_links.specs.Linked.{fault_of, route_ids, stop_ids, trip_ids}
use Rattle.gtfs_links.specs.Rules.{agency_fault, date_rule, frequency_rule, id_of_stop, id_of_trip, id_rule, stop_rule, time_rule, transfer_rule, trip_rule}

-- an index has the ids that it is made of
pub same_known : (names ids : List (List ℕ)) → names ≡ first_sights ids → has_name names ≡ has_name ids
same_known names ids e = ap (λ (ns : List (List ℕ)). has_name ns) e ∙ (λ i name. has-first_sights ids name i)

module _ (zone : List ℕ) (tables : Tables) (ix : Indexes) (h : AreIndexes tables ix) where
  -- what is found where ids are looked up in the indexes
  abbrev pub found_in : Option FeedFault
  found_in =
      first_of (agency_fault zone tables.agencies)
      (first_of (first_wrong file.Stops (stop_rule (has_name ix.stops)) [] tables.stops)
      (first_of (first_wrong file.Routes (id_rule id_of_route column.RouteId) [] tables.routes)
      (first_of (first_wrong file.Trips (trip_rule (has_name ix.routes) (has_name ix.services)) [] tables.trips)
      (first_of (first_wrong file.StopTimes (time_rule (has_name ix.trips) (has_name ix.stops)) [] tables.stop_times)
      (first_of (first_wrong file.Calendar (id_rule id_of_calendar column.ServiceId) [] tables.calendars)
      (first_of (first_wrong file.CalendarDates date_rule [] tables.dates)
      (first_of (first_wrong file.Transfers (transfer_rule (has_name ix.stops)) [] tables.transfers)
      (first_wrong file.Frequencies (frequency_rule (has_name ix.trips)) [] tables.frequencies))))))))

  -- is what the feed has
  same_fault : fault_of zone tables ≡ found_in
  same_fault = λ i.
      first_of (agency_fault zone tables.agencies)
      (first_of (first_wrong file.Stops (stop_rule (stops i)) [] tables.stops)
      (first_of (first_wrong file.Routes (id_rule id_of_route column.RouteId) [] tables.routes)
      (first_of (first_wrong file.Trips (trip_rule (routes i) (services i)) [] tables.trips)
      (first_of (first_wrong file.StopTimes (time_rule (trips i) (stops i)) [] tables.stop_times)
      (first_of (first_wrong file.Calendar (id_rule id_of_calendar column.ServiceId) [] tables.calendars)
      (first_of (first_wrong file.CalendarDates date_rule [] tables.dates)
      (first_of (first_wrong file.Transfers (transfer_rule (stops i)) [] tables.transfers)
      (first_wrong file.Frequencies (frequency_rule (trips i)) [] tables.frequencies))))))))
    where
      stops : has_name (stop_ids tables) ≡ has_name ix.stops
      stops = sym (same_known ix.stops (stop_ids tables) h.stops)

      routes : has_name (route_ids tables) ≡ has_name ix.routes
      routes = sym (same_known ix.routes (route_ids tables) h.routes)

      trips : has_name (trip_ids tables) ≡ has_name ix.trips
      trips = sym (same_known ix.trips (trip_ids tables) h.trips)

      services : has_name (service_ids tables) ≡ has_name ix.services
      services = sym (same_known ix.services (service_ids tables) h.services)

  pub finds_whole : {X : Type 0} (result : Result X FeedFault) → Finds result found_in → Finds result (fault_of zone tables)
  finds_whole result f = subst (λ (found : Option FeedFault). Finds result found) (sym same_fault) f

has-append_right : (names more : List (List ℕ)) (name : List ℕ) → has_name more name ≡ true → has_name (names ++ more) name ≡ true
has-append_right [] more name h = h
has-append_right (other ∷ names) more name h = or-last (bytes_eq name other) (has_name (names ++ more) name) (has-append_right names more name h)

-- a list has the ids of its rows
pub has_own : {R : Type 0} (id_of : R → List ℕ) (rows : List R) → All (λ (row : R). has_name (map id_of rows) (id_of row) ≡ true) rows
has_own id_of [] k d l = absurd (omega (arith, l))
has_own id_of (row ∷ rows) zero d l = rw (bytes_eq-refl (id_of row)) refl
has_own id_of (row ∷ rows) (suc k) d l = or-last (bytes_eq (id_of (get_or rows k d)) (id_of row)) (has_name (map id_of rows) (id_of (get_or rows k d))) (has_own id_of rows k d (omega (arith, l)))

-- the services of `calendar_dates.txt` are among the services
pub has_services : (tables : Tables) → All (HasId (services_of tables) service_of_date) tables.dates
has_services tables k d l =
    has-first_sights (service_ids tables) (get_or tables.dates k d).service_id
    ∙ has-append_right (map (λ (row : CalendarRow). row.service_id) tables.calendars) (map service_of_date tables.dates) (get_or tables.dates k d).service_id
    (has_own service_of_date tables.dates k d l)

-- the ids of a feed are few
few_names : (names ids : List (List ℕ)) → names ≡ first_sights ids → length ids < 2 ^ 32 → length names < 2 ^ 32
few_names names ids e few = rw e (omega (arith, few, first_sights-shorter ids))

pub few_ids : (tables : Tables) (ix : Indexes) → AreTables tables → AreIndexes tables ix → AreFew ix
few_ids tables ix read h = record {
  stops = few_names ix.stops (stop_ids tables) h.stops (omega (arith, read.stops.few, length-map tables.stops id_of_stop));
  routes = few_names ix.routes (route_ids tables) h.routes (omega (arith, read.routes.few, length-map tables.routes id_of_route));
  trips = few_names ix.trips (trip_ids tables) h.trips (omega (arith, read.trips.few, length-map tables.trips id_of_trip));
  services = few_names ix.services (service_ids tables) h.services (omega (
    arith,
    read.calendars.few,
    read.dates.few,
    length-append (map (λ (row : CalendarRow). row.service_id) tables.calendars) (map service_of_date tables.dates),
    length-map tables.calendars (λ (row : CalendarRow). row.service_id),
    length-map tables.dates service_of_date,
  ));
}
