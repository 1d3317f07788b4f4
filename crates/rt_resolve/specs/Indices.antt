-- A feed with indices of its ids.
use Rattle.std.specs.Prelude.{◌≡◌, ℕ, List, map}
use Rattle.otp_model.specs.Sound.{IsSound}
use Rattle.otp_model.specs.declared.timetable.Feed.{Feed}
use Rattle.otp_model.specs.declared.timetable.Stop.{Stop}
use Rattle.otp_model.specs.declared.timetable.Trip.{Trip}
use Rattle.rt_resolve.specs.declared.lookup.FeedIndex.{FeedIndex}

abbrev pub id_of_stop : Stop → List ℕ
id_of_stop stop = stop.id

abbrev pub id_of_trip : Trip → List ℕ
id_of_trip trip = trip.id

-- a sound feed with the ids of its trips and of its stops
pub record IsIndexed (feed : Feed) (trips stops : List (List ℕ)) : Type 0 where
  pub sound : IsSound feed
  pub trip_ids : trips ≡ map id_of_trip feed.trips
  pub stop_ids : stops ≡ map id_of_stop feed.stops

abbrev pub IsIndexOf : Feed → FeedIndex → Type 0
IsIndexOf feed index = IsIndexed feed index.trips index.stops
