-- Journeys as JSON (RFC 8259), with the keys of each object in the order of their bytes. Times are in seconds
-- since 1970-01-01 00:00 UTC.
use Rattle.std.specs.Prelude.{ℕ, ◌<◌, ℤ, List, [], Option, Some, None, map, length, slice_get, codes}
use Rattle.std.specs.Option.{option_map_or}
use Rattle.otp_model.specs.Ranges.{IsServiceDay}
use Rattle.otp_model.specs.declared.journey.Found.{Found}
use Rattle.otp_model.specs.declared.journey.Leg.{Leg}
use Rattle.otp_model.specs.declared.journey.Leg.TheVariants.{Walk, Ride}
use Rattle.otp_model.specs.declared.run_name.RunName.{RunName}
use Rattle.otp_model.specs.declared.run_name.TripName.{TripName}
use Rattle.otp_model.specs.declared.run_name.TripName.TheVariants.{Planned, Added}
use Rattle.otp_model.specs.declared.timetable.Call.{Call}
use Rattle.otp_model.specs.declared.timetable.Feed.{Feed}
use Rattle.otp_model.specs.declared.timetable.Stop.{Stop}
use Rattle.otp_model.specs.declared.timetable.Trip.{Trip}
use Rattle.serde_json.specs.Data.{Data, Members, number, string, array, object, unsigned, member, no_members}
use Rattle.serde_json.specs.Find.{of_integer}
use Rattle.serde_json.specs.View.{items_of}
use Rattle.plan_json.specs.Clock.{clock_text}
use Rattle.plan_json.specs.Date.{date_text}

-- the id of a stop, and that of a trip
abbrev pub stop_id : Feed → ℕ → List ℕ
stop_id feed stop = option_map_or (λ (found : Stop). found.id) (slice_get feed.stops stop) []

abbrev pub trip_id : Feed → ℕ → List ℕ
trip_id feed trip = option_map_or (λ (found : Trip). found.id) (slice_get feed.trips trip) []

-- a call, at its departure or its arrival
abbrev pub call_data : Feed → Call → ℤ → Data
call_data feed call time =
    object (member (codes "seq") (number (unsigned call.seq))
    (member (codes "stop") (string (stop_id feed call.stop))
    (member (codes "time") (number (of_integer time)) no_members)))

abbrev pub walk_data : ℕ → Data
walk_data seconds =
    object (member (codes "kind") (string (codes "walk")) (member (codes "seconds") (number (unsigned seconds)) no_members))

-- the id of a trip of the feed, or the text of an added one
abbrev pub trip_text : Feed → TripName → List ℕ
trip_text feed (Planned trip) = trip_id feed trip
trip_text feed (Added text) = text

-- the start of a run, where its name has one, before further members
abbrev pub with_start : Option ℕ → Members → Members
with_start None others = others
with_start (Some start) others = member (codes "start") (string (clock_text start)) others

abbrev pub ride_object : Data → Data → List ℕ → Option ℕ → List ℕ → Data
ride_object alight board date start trip =
    object (member (codes "alight") alight
    (member (codes "board") board
    (member (codes "date") (string date)
    (member (codes "kind") (string (codes "ride")) (with_start start (member (codes "trip") (string trip) no_members))))))

-- a ride from its boarding call, left at its departure, to its alighting call, reached at its arrival
abbrev pub ride_data : Feed → RunName → Call → Call → Data
ride_data feed name board alight =
    ride_object (call_data feed alight alight.arrival) (call_data feed board board.departure) (date_text name.day) name.start (trip_text feed name.trip)

abbrev pub leg_data : Feed → Leg → Data
leg_data feed (Walk seconds) = walk_data seconds
leg_data feed (Ride name board alight) = ride_data feed name board alight

abbrev pub legs_data : Feed → List Leg → Data
legs_data feed legs = array (items_of (map (leg_data feed) legs))

abbrev pub journey_data : Feed → Found → Data
journey_data feed found =
    object (member (codes "arrival") (number (of_integer found.value.arrival))
    (member (codes "cost") (number (unsigned found.value.cost))
    (member (codes "departure") (number (of_integer found.value.departure))
    (member (codes "legs") (legs_data feed found.journey.legs)
    (member (codes "rides") (number (unsigned found.value.rides)) no_members)))))

-- a planned trip is one of the feed
abbrev pub IsTripOf : Feed → TripName → Type 0
IsTripOf feed (Planned trip) = trip < length feed.trips
IsTripOf feed (Added text) = Unit {0}

-- the ride names a trip and stops of the feed, or an added trip, and a day of the years 1970 to 2999
pub record IsRideOf (feed : Feed) (name : RunName) (board alight : Call) : Type 0 where
  pub trip_is : IsTripOf feed name.trip
  pub day_is : IsServiceDay name.day
  pub board_is : board.stop < length feed.stops
  pub alight_is : alight.stop < length feed.stops

abbrev pub IsLegOf : Feed → Leg → Type 0
IsLegOf feed (Walk seconds) = Unit {0}
IsLegOf feed (Ride name board alight) = IsRideOf feed name board alight
