use Rattle.std.proofs.Common.{◌∙◌, ap, map, List}
use Rattle.otp_model.specs.Sights.{first_sights}
use Rattle.otp_model.specs.declared.timetable.Stop.{Stop}
use Rattle.otp_model.specs.declared.timetable.Trip.{Trip}
use Rattle.rt_resolve.specs.Indices.{id_of_stop, id_of_trip}
use Rattle.rt_resolve.proofs.IndexLemmas.{sighted_once}
use Rattle.rt_resolve.proofs.lookup.FeedIndex.of.Goals as goal

pub returns : goal.returns
returns c = record {
  sound = c.requires;
  trip_ids = c.in_ok-trips.ensures ∙ ap (λ (trips : List Trip). first_sights (map id_of_trip trips)) c.as_slice.ensures ∙ sighted_once id_of_trip c.args.feed.now.trips c.requires.trip_ids;
  stop_ids = c.in_ok-stops.ensures ∙ ap (λ (stops : List Stop). first_sights (map id_of_stop stops)) c.as_slice-2.ensures ∙ sighted_once id_of_stop c.args.feed.now.stops c.requires.stop_ids;
}
