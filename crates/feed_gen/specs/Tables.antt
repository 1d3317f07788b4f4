-- The files of the feed (GTFS Schedule reference, "Dataset Files").
use Rattle.std.specs.Prelude.{ℕ, suc, ◌+◌, ◌*◌, ◌/◌, ◌%◌, List, ◌++◌, codes, decimal}
use Rattle.feed_gen.specs.Draws.{draw}
use Rattle.feed_gen.specs.Lines.{stop_of, time_of}
use Rattle.feed_gen.specs.Texts.{clock, joined, millionths, trip_id}

abbrev pub agency_file : List ℕ
agency_file = codes "agency_id,agency_name,agency_url,agency_timezone\nX,Example,https://example.org,Etc/UTC\n"

abbrev pub calendar_file : List ℕ
calendar_file = codes "service_id,monday,tuesday,wednesday,thursday,friday,saturday,sunday,start_date,end_date\nS,1,0,0,0,0,0,0,20240506,20240506\n"

-- a stop stands 4,000 microdegrees from the next in its row and in its column
abbrev pub stop_row : ℕ → List ℕ
stop_row stop =
    codes "S" ++ (decimal stop ++ (codes ",S" ++ (decimal stop ++ (codes "," ++ (millionths (4000 * (stop / 20)) ++ (codes "," ++ (millionths (4000 * (stop % 20)) ++ codes "\n")))))))

abbrev pub stops_file : List ℕ
stops_file = codes "stop_id,stop_name,stop_lat,stop_lon\n" ++ joined stop_row 400

abbrev pub route_row : ℕ → List ℕ
route_row line = codes "L" ++ (decimal line ++ (codes ",X,L" ++ (decimal line ++ codes ",3\n")))

abbrev pub routes_file : List ℕ
routes_file = codes "route_id,agency_id,route_short_name,route_type\n" ++ joined route_row 60

abbrev pub trip_row : ℕ → ℕ → List ℕ
trip_row line trip = codes "L" ++ (decimal line ++ (codes ",S,T" ++ (decimal line ++ (codes "-" ++ (decimal trip ++ codes "\n")))))

abbrev pub trip_rows : ℕ → List ℕ
trip_rows line = joined (trip_row line) 100

abbrev pub trips_file : List ℕ
trips_file = codes "route_id,service_id,trip_id\n" ++ joined trip_rows 60

-- a row of the call of a trip: the time of arrival is that of departure
abbrev pub call_text : List ℕ → List ℕ → ℕ → ℕ → List ℕ
call_text trip clock stop sequence =
    trip ++ (codes "," ++ (clock ++ (codes "," ++ (clock ++ (codes ",S" ++ (decimal stop ++ (codes "," ++ (decimal sequence ++ codes "\n"))))))))

abbrev pub call_row : ℕ → ℕ → ℕ → ℕ → List ℕ
call_row seed line trip call = call_text (trip_id line trip) (clock (time_of seed line trip call)) (stop_of seed line call) (suc call)

abbrev pub call_rows : ℕ → ℕ → ℕ → List ℕ
call_rows seed line trip = joined (call_row seed line trip) 12

abbrev pub line_rows : ℕ → ℕ → List ℕ
line_rows seed line = joined (call_rows seed line) 100

abbrev pub stop_times_file : ℕ → List ℕ
stop_times_file seed = codes "trip_id,arrival_time,departure_time,stop_id,stop_sequence\n" ++ joined (line_rows seed) 60

-- 2024-05-06 00:00 UTC in seconds since 1970
abbrev pub midnight : ℕ
midnight = 1714953600

abbrev pub query_from : ℕ → ℕ → ℕ → List ℕ
query_from from to time =
    codes "from=stop:S" ++ (decimal from ++ (codes "&to=stop:S" ++ (decimal to ++ (codes "&time=" ++ (decimal time ++ codes "&window=3600&rides=4&page=200")))))

-- the query of a number from 1 on, by a part of its own
abbrev pub query_text : ℕ → ℕ → List ℕ
query_text seed number =
    query_from (draw seed (5000 + number) 0 400) (draw seed (5000 + number) 1 400) (midnight + 21600 + draw seed (5000 + number) 2 36000)

abbrev pub query_line : ℕ → ℕ → List ℕ
query_line seed place = query_text seed (suc place) ++ codes "\n"

abbrev pub queries_file : ℕ → List ℕ
queries_file seed = joined (query_line seed) 50
