-- How the updates of a trip move the calls of its run (GTFS Realtime reference, TripUpdate and StopTimeUpdate): an
-- update means one call, its delay goes on to the calls behind it until the next update, and no time falls. Which
-- call an update means, and that times are raised, is made exact here as this project's own.
use Rattle.std.specs.Prelude.{ℕ, ◌+◌, ◌^◌, ℤ, pos, neg_ℤ, ◌+ℤ◌, ◌-ℤ◌, int_le, List, [], ◌∷◌, drop, Option, None, Some, unwrap_or, Bool, true, false, nat_le, ◌==◌, ◌&&◌, if◌then◌else◌, slice_get}
use Rattle.std.specs.Int.{int_max}
use Rattle.std.specs.List.{list_all, position_from}
use Rattle.std.specs.Option.{option_map_or}
use Rattle.std.specs.Str.{bytes_eq}
use Rattle.otp_base.specs.Optionals.{◌>>=◌}
use Rattle.otp_model.specs.declared.message.Event.{Event}
use Rattle.otp_model.specs.declared.message.StopUpdate.{StopUpdate}
use Rattle.otp_model.specs.declared.timetable.Call.{Call}
use Rattle.otp_model.specs.declared.timetable.Stop.{Stop}

-- the id of a stop
abbrev pub stop_id : List Stop → ℕ → List ℕ
stop_id stops stop = option_map_or (λ (found : Stop). found.id) (slice_get stops stop) []

-- A call that an update may mean: that of its stop_sequence, or without one a call at its stop.
abbrev pub names_call : List Stop → Option ℕ → Option (List ℕ) → Call → Bool
names_call stops (Some seq) id call = call.seq == seq
names_call stops None (Some id) call = bytes_eq (stop_id stops call.stop) id
names_call stops None None call = false

-- the relations of an update that are read: 0 SCHEDULED, 1 SKIPPED and 2 NO_DATA
abbrev pub means : List Stop → StopUpdate → Call → Bool
means stops update call = nat_le update.relation 2 && names_call stops update.seq update.stop_id call

-- an update, and the place of the call that it means
pub record Meant : Type 0 where
  pub place : ℕ
  pub update : StopUpdate

-- The updates that mean a call, each the first such call from a place on, which is that behind the call meant
-- before; other updates are passed over.
unfoldable pub meant_from : List Stop → List Call → ℕ → List StopUpdate → List Meant
meant_from stops calls from [] = []
meant_from stops calls from (update ∷ updates) =
    option_map_or (λ place. record { place = place; update = update } ∷ meant_from stops calls (place + 1) updates)
    (position_from (means stops update) from (drop from calls)) (meant_from stops calls from updates)

-- the delay of an event: its time less the time that the feed gives, or else its own delay
abbrev pub delay_of : ℤ → Option Event → Option ℤ
delay_of planned None = None
delay_of planned (Some event) = option_map_or (λ time. Some (time -ℤ planned)) event.time event.delay

abbrev pub shifted : ℤ → ℤ → Call → Call
shifted arrival departure call = record call { arrival = call.arrival +ℤ arrival; departure = call.departure +ℤ departure }

-- a call once it is moved, and the delay that goes on to the calls behind it
pub record Moved : Type 0 where
  pub call : Call
  pub delay : ℤ

-- a call to which a delay comes without an update of its own
abbrev pub moved_along : ℤ → Call → Moved
moved_along delay call = record { call = shifted delay delay call; delay = delay }

-- A call that is skipped is passed without boarding and alighting. One without data ends the delay.
abbrev pub skipped : ℤ → Call → Moved
skipped delay call = record { call = record (shifted delay delay call) { board = false; alight = false }; delay = delay }

-- A call that is predicted: its arrival takes the delay of its arrival event, or the one that comes to it; its
-- departure that of its departure event, or that of the arrival.
abbrev pub predicted : ℤ → StopUpdate → Call → Moved
predicted delay update call =
    let arrival = unwrap_or (delay_of call.arrival update.arrival) delay in
    let departure = unwrap_or (delay_of call.departure update.departure) arrival in
    record { call = shifted arrival departure call; delay = departure }

abbrev pub moved_by : ℤ → StopUpdate → Call → Moved
moved_by delay update call =
    if update.relation == 1 then skipped delay call
    else if update.relation == 2 then moved_along (pos 0) call
    else predicted delay update call

-- the update of the call at this place, if the first of those that are left is, and those that are left behind it
abbrev pub here : ℕ → List Meant → Option StopUpdate
here place [] = None
here place (meant ∷ rest) = if meant.place == place then Some meant.update else None

abbrev pub behind : ℕ → List Meant → List Meant
behind place [] = []
behind place (meant ∷ rest) = if meant.place == place then rest else meant ∷ rest

abbrev pub moved_at : ℤ → Option StopUpdate → Call → Moved
moved_at delay None call = moved_along delay call
moved_at delay (Some update) call = moved_by delay update call

-- the calls from a place on, to which a delay comes
unfoldable pub moved_from : ℤ → ℕ → List Meant → List Call → List Call
moved_from delay place meant [] = []
moved_from delay place meant (call ∷ calls) =
    let moved = moved_at delay (here place meant) call in
    moved.call ∷ moved_from moved.delay (place + 1) (behind place meant) calls

-- the calls with each time raised to at least the one before it, in the order arrival, departure
unfoldable pub raised_above : ℤ → List Call → List Call
raised_above time [] = []
raised_above time (call ∷ calls) =
    let arrival = int_max time call.arrival in
    let departure = int_max arrival call.departure in
    record call { arrival = arrival; departure = departure } ∷ raised_above departure calls

abbrev pub raised : List Call → List Call
raised [] = []
raised (call ∷ calls) = raised_above call.arrival (call ∷ calls)

-- the calls of a run as the updates move them
abbrev pub moved_calls : List Stop → List StopUpdate → List Call → List Call
moved_calls stops updates calls = raised (moved_from (pos 0) 0 (meant_from stops calls 0 updates) calls)

-- ---- calls that a message alone gives

-- the number of the stop or platform of this id
abbrev pub platform_of : List Stop → List ℕ → Option ℕ
platform_of stops id = position_from (λ (stop : Stop). bytes_eq stop.id id && (stop.kind == 0)) 0 stops

abbrev pub event_time : Option Event → Option ℤ
event_time None = None
event_time (Some event) = event.time

-- the first of two that is there
abbrev pub first_of : {A : Type 0} → Option A → Option A → Option A
first_of (Some x) other = Some x
first_of None other = other

-- the relation of an update that gives a call: 0 SCHEDULED, or 1 SKIPPED, which bars boarding and alighting
abbrev pub is_served : ℕ → Option Bool
is_served relation = if relation == 0 then Some true else (if relation == 1 then Some false else None)

-- the call that an update gives at a place, counted from 1, if it names a stop or platform and a time
abbrev pub given_call : List Stop → ℕ → StopUpdate → Option Call
given_call stops place update = do
  served ← is_served update.relation
  id ← update.stop_id
  stop ← platform_of stops id
  arrival ← first_of (event_time update.arrival) (event_time update.departure)
  departure ← first_of (event_time update.departure) (event_time update.arrival)
  Some (record { stop = stop; seq = place; arrival = arrival; departure = departure; board = served; alight = served })

unfoldable pub given_from : List Stop → ℕ → List StopUpdate → Option (List Call)
given_from stops place [] = Some []
given_from stops place (update ∷ updates) = do
  call ← given_call stops place update
  calls ← given_from stops (place + 1) updates
  Some (call ∷ calls)

-- ---- ranges

-- a delay of 32 bits, and a time from 0 to 2 ^ 40
abbrev pub is_delay : ℤ → Bool
is_delay delay = int_le (neg_ℤ (pos (2 ^ 31))) delay && int_le delay (pos 2147483647)

abbrev pub is_event_time : ℤ → Bool
is_event_time time = int_le (pos 0) time && int_le time (pos (2 ^ 40))

abbrev pub is_event : Option Event → Bool
is_event None = true
is_event (Some event) = option_map_or is_delay event.delay true && option_map_or is_event_time event.time true

-- the events of all updates are in range, also of those that mean no call
abbrev pub are_events : List StopUpdate → Bool
are_events updates = list_all (λ (update : StopUpdate). is_event update.arrival && is_event update.departure) updates
