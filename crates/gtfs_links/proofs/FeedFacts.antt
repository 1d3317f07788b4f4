-- What follows where a feed has no fault, and what a fault is told as.
use Rattle.std.proofs.Common.{◌≡◌, ◌≢◌, ℕ, List, [], Option, None, Ok, refl, sym, ap, ◌∙◌, arith}
use Rattle.std.specs.List.{All, list_any}
use Rattle.otp_base.specs.Answers.{GivesFault}
use Rattle.otp_model.specs.FeedFaults.{told_of}
use Rattle.otp_model.specs.Services.{service_ids}
use Rattle.otp_model.specs.Sights.{has_name}
use Rattle.otp_model.specs.declared.feed_fault.FeedFault.{FeedFault}
use Rattle.otp_model.specs.declared.feed_fault.FeedFault.TheVariants as answer
use Rattle.otp_model.specs.declared.feed_fault.FeedFile.TheVariants as file
use Rattle.otp_model.specs.declared.tables.Tables.{Tables}
use Rattle.gtfs_links.specs.declared.check.wrong.Column.TheVariants as column
use Rattle.gtfs_links.specs.declared.feed.Linked.{Linked}
use Rattle.gtfs_links.specs.declared.indexes.Indexes.{Indexes}
use Rattle.gtfs_links.specs.Faults.{FindsAs, first_of, first_wrong}
use Rattle.gtfs_links.specs.Index.{AreIndexes, HasId, id_of_calendar, id_of_route, trip_of_frequency, trip_of_time}
use Rattle.gtfs_links.specs.Linked.{AreNumbers, fault_of, feed_of, linked_of, linked_or, route_ids, stop_ids, trip_ids}
use Rattle.gtfs_links.specs.Rules.{agency_fault, date_rule, frequency_rule, id_of_stop, id_of_trip, id_rule, is_same_call, is_same_start, is_unknown, stop_rule, time_rule, transfer_rule, trip_rule}
use Rattle.gtfs_links.proofs.DistinctFacts.{AreApart, each_fine, none_first, none_later, rows_apart, sighted_once}
use Rattle.gtfs_links.proofs.RuleFacts.{call_known, repeat_none, start_known, stop_none, trip_none}

none_apart : {R : Type 0} (id_of : R → List ℕ) → AreApart id_of []
none_apart id_of i j d l m = absurd (omega (arith, m))

module _ (zone : List ℕ) (tables : Tables) (fine : fault_of zone tables ≡ None) where
  abbrev pub in_stops : Option FeedFault
  in_stops = first_wrong file.Stops (stop_rule (has_name (stop_ids tables))) [] tables.stops

  abbrev pub in_routes : Option FeedFault
  in_routes = first_wrong file.Routes (id_rule id_of_route column.RouteId) [] tables.routes

  abbrev pub in_trips : Option FeedFault
  in_trips = first_wrong file.Trips (trip_rule (has_name (route_ids tables)) (has_name (service_ids tables))) [] tables.trips

  abbrev pub in_times : Option FeedFault
  in_times = first_wrong file.StopTimes (time_rule (has_name (trip_ids tables)) (has_name (stop_ids tables))) [] tables.stop_times

  abbrev pub in_calendars : Option FeedFault
  in_calendars = first_wrong file.Calendar (id_rule id_of_calendar column.ServiceId) [] tables.calendars

  abbrev pub in_dates : Option FeedFault
  in_dates = first_wrong file.CalendarDates date_rule [] tables.dates

  abbrev pub in_transfers : Option FeedFault
  in_transfers = first_wrong file.Transfers (transfer_rule (has_name (stop_ids tables))) [] tables.transfers

  abbrev pub in_frequencies : Option FeedFault
  in_frequencies = first_wrong file.Frequencies (frequency_rule (has_name (trip_ids tables))) [] tables.frequencies

  abbrev from_transfers : Option FeedFault
  from_transfers = first_of in_transfers in_frequencies

  abbrev from_dates : Option FeedFault
  from_dates = first_of in_dates from_transfers

  abbrev from_calendars : Option FeedFault
  from_calendars = first_of in_calendars from_dates

  abbrev from_times : Option FeedFault
  from_times = first_of in_times from_calendars

  abbrev from_trips : Option FeedFault
  from_trips = first_of in_trips from_times

  abbrev from_routes : Option FeedFault
  from_routes = first_of in_routes from_trips

  abbrev from_stops : Option FeedFault
  from_stops = first_of in_stops from_routes

  none_stops : from_stops ≡ None
  none_stops = none_later (agency_fault zone tables.agencies) from_stops fine

  none_routes : from_routes ≡ None
  none_routes = none_later in_stops from_routes none_stops

  none_trips : from_trips ≡ None
  none_trips = none_later in_routes from_trips none_routes

  none_times : from_times ≡ None
  none_times = none_later in_trips from_times none_trips

  none_transfers : from_transfers ≡ None
  none_transfers = none_later in_dates from_transfers (none_later in_calendars from_dates (none_later in_times from_calendars none_times))

  pub none_of_stops : in_stops ≡ None
  none_of_stops = none_first in_stops from_routes none_stops

  pub none_of_times : in_times ≡ None
  none_of_times = none_first in_times from_calendars none_times

  pub none_of_transfers : in_transfers ≡ None
  none_of_transfers = none_first in_transfers in_frequencies none_transfers

  pub none_of_frequencies : in_frequencies ≡ None
  none_of_frequencies = none_later in_transfers in_frequencies none_transfers

  pub stops_apart : AreApart id_of_stop tables.stops
  stops_apart = rows_apart id_of_stop file.Stops (stop_rule (has_name (stop_ids tables))) (λ before row h. stop_none _ (has_name (stop_ids tables)) row h) [] tables.stops (none_apart id_of_stop) none_of_stops

  pub routes_apart : AreApart id_of_route tables.routes
  routes_apart =
      rows_apart id_of_route file.Routes (id_rule id_of_route column.RouteId) (λ before row h. repeat_none column.RouteId _ h) [] tables.routes (none_apart id_of_route) (none_first in_routes from_trips none_routes)

  pub trips_apart : AreApart id_of_trip tables.trips
  trips_apart =
      rows_apart id_of_trip file.Trips (trip_rule (has_name (route_ids tables)) (has_name (service_ids tables))) (λ before row h. trip_none _ (has_name (route_ids tables)) (has_name (service_ids tables)) row h) [] tables.trips
      (none_apart id_of_trip) (none_first in_trips from_times none_trips)

  pub times_known : All (HasId (trip_ids tables) trip_of_time) tables.stop_times
  times_known =
      each_fine file.StopTimes (time_rule (has_name (trip_ids tables)) (has_name (stop_ids tables))) (HasId (trip_ids tables) trip_of_time)
      (λ before row h. call_known (list_any (is_same_call row) before) (has_name (trip_ids tables) row.trip_id) (is_unknown (has_name (stop_ids tables)) row.stop_id) h) [] tables.stop_times none_of_times

  pub frequencies_known : All (HasId (trip_ids tables) trip_of_frequency) tables.frequencies
  frequencies_known =
      each_fine file.Frequencies (frequency_rule (has_name (trip_ids tables))) (HasId (trip_ids tables) trip_of_frequency)
      (λ before row h. start_known (list_any (is_same_start row) before) (has_name (trip_ids tables) row.trip_id) h) [] tables.frequencies none_of_frequencies

  pub are_numbers : (ix : Indexes) → AreIndexes tables ix → AreNumbers tables ix
  are_numbers ix h = record {
    stops = h.stops ∙ sighted_once id_of_stop tables.stops stops_apart;
    routes = h.routes ∙ sighted_once id_of_route tables.routes routes_apart;
    services = h.services;
    trips = h.trips ∙ sighted_once id_of_trip tables.trips trips_apart;
    apart = trips_apart;
    called = times_known;
    started = frequencies_known;
  }

or_none : (found : Option FeedFault) (linked : Linked) → found ≡ None → linked_or found linked ≡ Ok linked
or_none found linked h = rw h refl

pub links_feed : (tables : Tables) (zone : List ℕ) (scale : ℕ) (linked : Linked) → fault_of zone tables ≡ None → linked ≡ feed_of scale tables → linked_of tables zone scale ≡ Ok linked
unfolding linked_of
links_feed tables zone scale linked none e = or_none (fault_of zone tables) (feed_of scale tables) none ∙ ap Ok (sym e)

-- a call that fails with the fault, or for want of memory
gives_fault : (e : FeedFault) (found : Option FeedFault) (linked : Linked) → FindsAs e found → GivesFault (told_of e) (linked_or found linked)
gives_fault (answer.At c f r column) found linked h = rw h refl
gives_fault answer.Read found linked h = tt
gives_fault answer.Memory found linked h = tt

pub links_fault : (tables : Tables) (zone : List ℕ) (scale : ℕ) (e : FeedFault) → FindsAs e (fault_of zone tables) → GivesFault (told_of e) (linked_of tables zone scale)
unfolding linked_of
links_fault tables zone scale e h = gives_fault e (fault_of zone tables) (feed_of scale tables) h

-- and nothing was read
pub no_read : (e : FeedFault) (found : Option FeedFault) → FindsAs e found → e ≢ answer.Read
no_read (answer.At c f r column) found h same = cc same
no_read answer.Read found h same = h
no_read answer.Memory found h same = cc same
