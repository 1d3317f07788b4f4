-- TripDescriptor and TripUpdate (GTFS Realtime reference), by the numbers of their fields.
use Rattle.std.specs.Prelude.{ℕ, Bool, false, List, [], ◌++◌, Option, None, is_some, option_map, option_to_list, unwrap_or, ◌==◌, if◌then◌else◌}
use Rattle.otp_model.specs.declared.message.StopUpdate.{StopUpdate}
use Rattle.otp_model.specs.declared.message.TripUpdate.{TripUpdate}
use Rattle.pb_wire.specs.declared.field.Field.{Field}
use Rattle.rt_reader.specs.declared.fault.MessageFault.{MessageFault}
use Rattle.rt_reader.specs.declared.trip.Descriptor.{Descriptor}
use Rattle.rt_reader.specs.declared.trip.TripDraft.{TripDraft}
use Rattle.rt_reader.specs.Fields.{Part, bytes_in, number_in, part_in, later}
use Rattle.rt_reader.specs.Tables.{stop_table, descriptor_table}
use Rattle.rt_reader.specs.Walk.{part_wrong, part_value}
use Rattle.rt_reader.specs.Events.{event_walked, stop_seen, stop_add, stop_blank}

abbrev pub stop_walked : List ℕ → Part → Option MessageFault
stop_walked body p = part_wrong (stop_table event_walked) stop_seen stop_add stop_blank body p

abbrev pub stop_value : List ℕ → Part → StopUpdate
stop_value body p = part_value stop_add stop_blank body p

abbrev pub descriptor_seen : Descriptor → ℕ → Bool
descriptor_seen d n = false

abbrev pub descriptor_blank : Descriptor
descriptor_blank = record { trip_id = None; start_time = None; start_date = None; relation = 0; route_id = None }

abbrev pub words_in : List ℕ → ℕ → Field → Option (List ℕ)
words_in body n f = option_map (bytes_in body) (part_in n f)

abbrev pub descriptor_add : List ℕ → Descriptor → Field → Descriptor
descriptor_add body d f = record {
  trip_id = later d.trip_id (words_in body 1 f);
  start_time = later d.start_time (words_in body 2 f);
  start_date = later d.start_date (words_in body 3 f);
  relation = unwrap_or (number_in 4 f) d.relation;
  route_id = later d.route_id (words_in body 5 f);
}

abbrev pub descriptor_walked : List ℕ → Part → Option MessageFault
descriptor_walked body p = part_wrong descriptor_table descriptor_seen descriptor_add descriptor_blank body p

abbrev pub descriptor_value : List ℕ → Part → Descriptor
descriptor_value body p = part_value descriptor_add descriptor_blank body p

abbrev pub trip_seen : TripDraft → ℕ → Bool
trip_seen t n = if n == 1 then is_some t.trip else false

abbrev pub trip_blank : TripDraft
trip_blank = record { trip = None; updates = [] }

abbrev pub trip_add : List ℕ → TripDraft → Field → TripDraft
trip_add body t f = record {
  trip = later t.trip (option_map (descriptor_value body) (part_in 1 f));
  updates = t.updates ++ option_to_list (option_map (stop_value body) (part_in 2 f));
}

-- a trip update without a descriptor has an empty one
abbrev pub update_of : TripDraft → TripUpdate
update_of t = let d = unwrap_or t.trip descriptor_blank in record {
  trip_id = d.trip_id;
  start_date = d.start_date;
  start_time = d.start_time;
  route_id = d.route_id;
  relation = d.relation;
  updates = t.updates;
}
