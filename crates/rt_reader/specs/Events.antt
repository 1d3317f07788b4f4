-- StopTimeEvent and StopTimeUpdate (GTFS Realtime reference), by the numbers of their fields.
use Rattle.std.specs.Prelude.{ℕ, ℤ, Bool, false, List, Option, None, is_some, option_map, unwrap_or, ◌==◌, if◌then◌else◌}
use Rattle.std.specs.Int.{w64, cast_signed}
use Rattle.otp_model.specs.declared.message.Event.{Event}
use Rattle.otp_model.specs.declared.message.StopUpdate.{StopUpdate}
use Rattle.pb_wire.specs.declared.field.Field.{Field}
use Rattle.rt_reader.specs.declared.fault.MessageFault.{MessageFault}
use Rattle.rt_reader.specs.Fields.{Part, bytes_in, number_in, part_in, later}
use Rattle.rt_reader.specs.Tables.{event_table}
use Rattle.rt_reader.specs.Walk.{part_wrong, part_value}

-- 64-bit two's complement
abbrev pub signed : ℕ → ℤ
signed n = cast_signed w64 n

abbrev pub event_seen : Event → ℕ → Bool
event_seen e n = false

abbrev pub event_blank : Event
event_blank = record { delay = None; time = None }

abbrev pub event_add : List ℕ → Event → Field → Event
event_add body e f = record { delay = later e.delay (option_map signed (number_in 1 f)); time = later e.time (option_map signed (number_in 2 f)) }

abbrev pub event_walked : List ℕ → Part → Option MessageFault
event_walked body p = part_wrong event_table event_seen event_add event_blank body p

abbrev pub event_value : List ℕ → Part → Event
event_value body p = part_value event_add event_blank body p

abbrev pub stop_seen : StopUpdate → ℕ → Bool
stop_seen u n = if n == 2 then is_some u.arrival else if n == 3 then is_some u.departure else false

abbrev pub stop_blank : StopUpdate
stop_blank = record { seq = None; stop_id = None; relation = 0; arrival = None; departure = None }

abbrev pub stop_add : List ℕ → StopUpdate → Field → StopUpdate
stop_add body u f = record {
  seq = later u.seq (number_in 1 f);
  stop_id = later u.stop_id (option_map (bytes_in body) (part_in 4 f));
  relation = unwrap_or (number_in 5 f) u.relation;
  arrival = later u.arrival (option_map (event_value body) (part_in 2 f));
  departure = later u.departure (option_map (event_value body) (part_in 3 f));
}
