-- Where a journey begins or ends, as a parameter spells it: `stop:ID`, or `at:LAT,LON` in degrees as the fields
-- stop_lat and stop_lon of `stops.txt` write them (GTFS Schedule reference, "Latitude" and "Longitude").
use Rattle.std.specs.Prelude.{ℕ, List, Option, Some, None, Result, Ok, Err, Bool, nat_le, ◌&&◌, ℤ, codes, if◌then◌else◌}
use Rattle.std.specs.List.{position}
use Rattle.std.specs.Str.{bytes_eq}
use Rattle.gtfs_records.specs.Fields.{degrees_of}
use Rattle.otp_base.specs.Cut.{cut}
use Rattle.otp_model.specs.Limits.{most_latitude, most_longitude}
use Rattle.otp_model.specs.declared.timetable.Stop.{Stop}
use Rattle.otp_model.specs.declared.timetable.Point.{Point}
use Rattle.otp_model.specs.declared.journey.Place.{Place}
use Rattle.otp_model.specs.declared.journey.Place.TheVariants as place
use Rattle.otp_model.specs.Plane.{point_at}
use Rattle.query_form.specs.declared.fault.QueryFault.{QueryFault}
use Rattle.query_form.specs.declared.fault.QueryFault.TheVariants as fault

-- a stop, platform or station with this id
abbrev pub is_place : List ℕ → Stop → Bool
is_place id stop = nat_le stop.kind 1 && bytes_eq stop.id id

abbrev pub stop_at : Option ℕ → Result Place QueryFault
stop_at None = Err fault.UnknownPlace
stop_at (Some number) = Ok (place.Stop number)

abbrev pub stop_of : List Stop → List ℕ → Result Place QueryFault
stop_of stops id = stop_at (position (is_place id) stops)

abbrev pub at_point : Point → Place
at_point p = place.At p.x p.y

abbrev pub point_of : ℕ → Option ℤ → Option ℤ → Result Place QueryFault
point_of scale None longitude = Err fault.Bad
point_of scale (Some latitude) None = Err fault.Bad
point_of scale (Some latitude) (Some longitude) = Ok (at_point (point_at scale latitude longitude))

-- a latitude, a comma and a longitude; up to the first comma
abbrev pub degrees_in : ℕ → Option (List ℕ × List ℕ) → Result Place QueryFault
degrees_in scale None = Err fault.Bad
degrees_in scale (Some parts) = point_of scale (degrees_of most_latitude parts.0) (degrees_of most_longitude parts.1)

-- `b':'` and `b','`
abbrev pub colon : ℕ
colon = 58

abbrev pub comma : ℕ
comma = 44

abbrev pub of_kind : List Stop → ℕ → List ℕ → List ℕ → Result Place QueryFault
of_kind stops scale kind text =
    if bytes_eq kind (codes "stop") then stop_of stops text
    else (if bytes_eq kind (codes "at") then degrees_in scale (cut comma text) else Err fault.Bad)

abbrev pub place_in : List Stop → ℕ → Option (List ℕ × List ℕ) → Result Place QueryFault
place_in stops scale None = Err fault.Bad
place_in stops scale (Some parts) = of_kind stops scale parts.0 parts.1

-- the place that a text spells: what stands before the first colon says how
unfoldable pub place_of : List Stop → ℕ → List ℕ → Result Place QueryFault
place_of stops scale text = place_in stops scale (cut colon text)
