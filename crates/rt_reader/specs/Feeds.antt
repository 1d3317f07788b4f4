-- FeedHeader, FeedEntity and FeedMessage (GTFS Realtime reference), by the numbers of their fields.
use Rattle.std.specs.Prelude.{ℕ, Bool, false, List, [], ◌++◌, Option, Some, None, is_some, option_map, option_to_list, option_and_then, unwrap_or, ◌==◌, if◌then◌else◌}
use Rattle.otp_model.specs.declared.message.TripUpdate.{TripUpdate}
use Rattle.otp_model.specs.declared.message.Entity.{Entity}
use Rattle.otp_model.specs.declared.message.Message.{Message}
use Rattle.pb_wire.specs.declared.field.Field.{Field}
use Rattle.rt_reader.specs.declared.fault.MessageFault.{MessageFault}
use Rattle.rt_reader.specs.declared.fault.MessageFault.TheVariants as fault
use Rattle.rt_reader.specs.declared.feed.Header.{Header}
use Rattle.rt_reader.specs.declared.feed.Feed.{Feed}
use Rattle.rt_reader.specs.Faults.{first}
use Rattle.rt_reader.specs.Fields.{Part, number_in, part_in, later, not_zero}
use Rattle.rt_reader.specs.Tables.{trip_table, entity_table, header_table, feed_table, whole_of, wrong_incrementality}
use Rattle.rt_reader.specs.Walk.{part_wrong, part_value}
use Rattle.rt_reader.specs.Trips.{descriptor_walked, stop_walked, trip_seen, trip_add, trip_blank, update_of}

abbrev pub trip_walked : List ℕ → Part → Option MessageFault
trip_walked body p = part_wrong (trip_table descriptor_walked stop_walked) trip_seen trip_add trip_blank body p

abbrev pub trip_value : List ℕ → Part → TripUpdate
trip_value body p = update_of (part_value trip_add trip_blank body p)

abbrev pub entity_seen : Entity → ℕ → Bool
entity_seen e n = if n == 3 then is_some e.update else false

abbrev pub entity_blank : Entity
entity_blank = record { deleted = false; update = None }

abbrev pub entity_add : List ℕ → Entity → Field → Entity
entity_add body e f = record {
  deleted = unwrap_or (option_map not_zero (number_in 2 f)) e.deleted;
  update = later e.update (option_map (trip_value body) (part_in 3 f));
}

abbrev pub entity_walked : List ℕ → Part → Option MessageFault
entity_walked body p = part_wrong (entity_table trip_walked) entity_seen entity_add entity_blank body p

abbrev pub entity_value : List ℕ → Part → Entity
entity_value body p = part_value entity_add entity_blank body p

abbrev pub header_seen : Header → ℕ → Bool
header_seen h n = false

abbrev pub header_blank : Header
header_blank = record { incrementality = None; timestamp = None }

abbrev pub header_add : List ℕ → Header → Field → Header
header_add body h f = record { incrementality = later h.incrementality (number_in 2 f); timestamp = later h.timestamp (number_in 3 f) }

abbrev pub header_walked : List ℕ → Part → Option MessageFault
header_walked body p = part_wrong header_table header_seen header_add header_blank body p

abbrev pub header_value : List ℕ → Part → Header
header_value body p = part_value header_add header_blank body p

abbrev pub feed_seen : Feed → ℕ → Bool
feed_seen m n = if n == 1 then is_some m.header else false

abbrev pub feed_blank : Feed
feed_blank = record { header = None; entities = [] }

abbrev pub feed_add : List ℕ → Feed → Field → Feed
feed_add body m f = record {
  header = later m.header (option_map (header_value body) (part_in 1 f));
  entities = m.entities ++ option_to_list (option_map (entity_value body) (part_in 2 f));
}

abbrev pub wrong_header : Option Header → Option MessageFault
wrong_header None = Some fault.NoHeader
wrong_header (Some h) = wrong_incrementality h.incrementality

abbrev pub feed_read : List ℕ → Feed
feed_read body = part_value feed_add feed_blank body (whole_of body)

-- The first fault of a body, if it has one.
abbrev pub message_wrong : List ℕ → Option MessageFault
message_wrong body = first (part_wrong (feed_table header_walked entity_walked) feed_seen feed_add feed_blank body (whole_of body)) (wrong_header (feed_read body).header)

abbrev pub message_from : Feed → Message
message_from m = record { timestamp = option_and_then (λ h. h.timestamp) m.header; entities = m.entities }

-- What a body says, where it has no fault.
abbrev pub message_value : List ℕ → Message
message_value body = message_from (feed_read body)
