-- The linked feed, from what each of its parts was made of.
use Rattle.std.proofs.Common.{◌≡◌, ℕ, List, length, map, Option, ap, subst, ◌∙◌}
use Rattle.std.specs.Prelude.{nat_le}
use Rattle.std.specs.List.{All}
use Rattle.std.proofs.lemmas.List.{length-map}
use Rattle.otp_base.specs.EachAt.{EachAt}
use Rattle.otp_model.specs.Services.{services_of}
use Rattle.otp_model.specs.declared.links.TimeRow.{TimeRow}
use Rattle.otp_model.specs.declared.links.TransferRow.{TransferRow}
use Rattle.otp_model.specs.declared.tables.Tables.{Tables}
use Rattle.otp_model.specs.declared.timetable.Stop.{Stop}
use Rattle.otp_model.specs.declared.timetable.Trip.{Trip}
use Rattle.gtfs_links.specs.declared.feed.HeadwayRow.{HeadwayRow}
use Rattle.gtfs_links.specs.declared.indexes.Indexes.{Indexes}
use Rattle.gtfs_links.specs.declared.numbers.Numbers.{Numbers}
use Rattle.gtfs_links.specs.Index.{HasId, stop_of_time, trip_of_frequency, trip_of_time}
use Rattle.gtfs_links.specs.Kept.{AreCounts, AreKeptNumbers, IsPlacedIn}
use Rattle.gtfs_links.specs.Keys.{numbers_in}
use Rattle.gtfs_links.specs.Linked.{AreNumbers, feed_of, headways_of, is_kept, kept_ids, kept_trips, passed_of, route_ids, stop_at, stop_ids, times_of, transfer_at, trip_at}
use Rattle.gtfs_links.specs.Numbers.{AreNumbered}
use Rattle.gtfs_links.specs.Rules.{id_of_trip}
use Rattle.gtfs_links.proofs.KeptFacts.{are_placed, counts_tell}

module _ (tables : Tables) (ix : Indexes) (n : AreNumbers tables ix) where
  pub calls_known : All (HasId ix.trips trip_of_time) tables.stop_times
  calls_known = rw n.trips n.called

  module _ (numbers : Numbers) (m : AreNumbered tables ix numbers) (counts : List ℕ) (h : AreCounts ix.trips tables.stop_times counts) where
    pub many : length counts ≡ length tables.trips
    many = h.same_length ∙ (ap length n.trips ∙ length-map tables.trips id_of_trip)

    -- by the counts, the trips that are kept are told
    pub told : map (nat_le 2) counts ≡ map (is_kept tables.stop_times) tables.trips
    told = counts_tell tables.trips tables.stop_times counts n.apart n.called (subst (λ (trips : List (List ℕ)). AreCounts trips tables.stop_times counts) n.trips h)

    pub stops_numbered : numbers.stops ≡ numbers_in (stop_ids tables) stop_of_time tables.stop_times
    stops_numbered = m.stops ∙ ap (λ (stops : List (List ℕ)). numbers_in stops stop_of_time tables.stop_times) n.stops

    module _ (kept : List (Option ℕ)) (k : AreKeptNumbers counts kept) where
      pub times_placed : EachAt (IsPlacedIn (kept_ids tables) trip_of_time numbers.trips kept) tables.stop_times
      times_placed =
          are_placed trip_of_time (is_kept tables.stop_times) tables.trips counts kept numbers.trips tables.stop_times n.apart many told k
          (m.trips ∙ ap (λ (trips : List (List ℕ)). numbers_in trips trip_of_time tables.stop_times) n.trips) n.called

      pub headways_placed : EachAt (IsPlacedIn (kept_ids tables) trip_of_frequency numbers.frequencies kept) tables.frequencies
      headways_placed =
          are_placed trip_of_frequency (is_kept tables.stop_times) tables.trips counts kept numbers.frequencies tables.frequencies n.apart many told k
          (m.frequencies ∙ ap (λ (trips : List (List ℕ)). numbers_in trips trip_of_frequency tables.frequencies) n.trips) n.started

  pub feed_is : (scale : ℕ) (stops : List Stop) (trips : List Trip) (times : List TimeRow) (transfers : List TransferRow) (passed : ℕ) (headways : List HeadwayRow)
      → stops ≡ map (stop_at scale ix.stops) tables.stops
      → trips ≡ map (trip_at ix.routes ix.services) (kept_trips tables)
      → times ≡ times_of tables
      → transfers ≡ map (transfer_at ix.stops) tables.transfers
      → passed ≡ passed_of tables (length trips)
      → headways ≡ headways_of (kept_ids tables) tables.frequencies
      → record { stops = stops; trips = trips; times = times; transfers = transfers; passed = passed; headways = headways } ≡ feed_of scale tables
  feed_is scale stops trips times transfers passed headways s r t f p w =
      let stops_are : stops ≡ map (stop_at scale (stop_ids tables)) tables.stops = s ∙ (λ i. map (stop_at scale (n.stops i)) tables.stops) in
      let trips_are : trips ≡ map (trip_at (route_ids tables) (services_of tables)) (kept_trips tables) = r ∙ (λ i. map (trip_at (n.routes i) (n.services i)) (kept_trips tables)) in
      let transfers_are : transfers ≡ map (transfer_at (stop_ids tables)) tables.transfers = f ∙ (λ i. map (transfer_at (n.stops i)) tables.transfers) in
      let count : length trips ≡ length (kept_trips tables) = ap length r ∙ length-map (kept_trips tables) (trip_at ix.routes ix.services) in
      let passed_is : passed ≡ passed_of tables (length (kept_trips tables)) = p ∙ ap (λ (m : ℕ). passed_of tables m) count in
      λ i. record { stops = stops_are i; trips = trips_are i; times = t i; transfers = transfers_are i; passed = passed_is i; headways = w i }
