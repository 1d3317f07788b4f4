-- The fields that are read of each message (GTFS Realtime reference), by their numbers, and the first
-- fault of a message's bytes. `inside` is what is wrong with the bytes of an embedded message.
use Rattle.std.specs.Prelude.{ℕ, Bool, true, false, List, [], ◌∷◌, ◌++◌, length, Option, Some, None, Result, Ok, Err, option_to_list, ◌==◌, if◌then◌else◌}
use Rattle.pb_wire.specs.declared.field.Field.{Field}
use Rattle.pb_wire.specs.declared.field.WireFault.{WireFault}
use Rattle.pb_wire.specs.Cutting.{cut}
use Rattle.rt_reader.specs.declared.fault.MessageFault.{MessageFault}
use Rattle.rt_reader.specs.declared.fault.MessageFault.TheVariants as fault
use Rattle.rt_reader.specs.Faults.{fault_of, first}
use Rattle.rt_reader.specs.Fields.{Part, Reading, skipped, number, words, one, many, bytes_in, number_in, part_in, later, wrong_value}

-- StopTimeEvent: delay 1, time 2
abbrev pub event_table : ℕ → Reading
event_table n = if n == 1 then number else if n == 2 then number else skipped

-- StopTimeUpdate: stop_sequence 1, arrival 2, departure 3, stop_id 4, schedule_relationship 5
abbrev pub stop_table : (List ℕ → Part → Option MessageFault) → ℕ → Reading
stop_table inside n =
    if n == 1 then number
    else if n == 2 then one inside
    else if n == 3 then one inside
    else if n == 4 then words
    else if n == 5 then number
    else skipped

-- TripDescriptor: trip_id 1, start_time 2, start_date 3, schedule_relationship 4, route_id 5
abbrev pub descriptor_table : ℕ → Reading
descriptor_table n =
    if n == 1 then words
    else if n == 2 then words
    else if n == 3 then words
    else if n == 4 then number
    else if n == 5 then words
    else skipped

-- TripUpdate: trip 1, stop_time_update 2
abbrev pub trip_table : (List ℕ → Part → Option MessageFault) → (List ℕ → Part → Option MessageFault) → ℕ → Reading
trip_table trip_inside stop_inside n = if n == 1 then one trip_inside else if n == 2 then many stop_inside else skipped

-- FeedEntity: is_deleted 2, trip_update 3
abbrev pub entity_table : (List ℕ → Part → Option MessageFault) → ℕ → Reading
entity_table inside n = if n == 2 then number else if n == 3 then one inside else skipped

-- FeedHeader: incrementality 2, timestamp 3
abbrev pub header_table : ℕ → Reading
header_table n = if n == 2 then number else if n == 3 then number else skipped

-- FeedMessage: header 1, entity 2
abbrev pub feed_table : (List ℕ → Part → Option MessageFault) → (List ℕ → Part → Option MessageFault) → ℕ → Reading
feed_table header_inside entity_inside n = if n == 1 then one header_inside else if n == 2 then many entity_inside else skipped

-- what the fields give, in order
abbrev pub all : {X : Type 0} → (Field → Option X) → List Field → List X
all g [] = []
all g (f ∷ fs) = option_to_list (g f) ++ all g fs

abbrev pub last_in : {X : Type 0} → List X → Option X
last_in [] = None
last_in (x ∷ xs) = later (Some x) (last_in xs)

-- the last value that the fields give: it replaces those before it
abbrev pub last : {X : Type 0} → (Field → Option X) → List Field → Option X
last g fs = last_in (all g fs)

abbrev pub some_in : {X : Type 0} → List X → Bool
some_in [] = false
some_in (x ∷ xs) = true

-- The first fault of fields that stand after others: each is looked at in turn. A second value of a
-- singular message is one that stands after another of its number.
unfoldable pub first_wrong : (ℕ → Reading) → List ℕ → List Field → List Field → Option MessageFault
first_wrong table body before [] = None
first_wrong table body before (f ∷ fs) = first (wrong_value (table f.number) body (some_in (all (part_in f.number) before)) f.at f.value) (first_wrong table body (before ++ f ∷ []) fs)

abbrev pub wrong_cut : Result (List Field) WireFault → (List Field → Option MessageFault) → Option MessageFault
wrong_cut (Ok fs) inside = inside fs
wrong_cut (Err w) inside = Some (fault_of w)

-- The first fault of the bytes of a part: they are cut into fields before these are looked at.
unfoldable pub wrong_part : (ℕ → Reading) → List ℕ → Part → Option MessageFault
wrong_part table body p = wrong_cut (cut p.from (bytes_in body p)) (first_wrong table body [])

abbrev pub event_wrong : List ℕ → Part → Option MessageFault
event_wrong body p = wrong_part event_table body p

abbrev pub stop_wrong : List ℕ → Part → Option MessageFault
stop_wrong body p = wrong_part (stop_table event_wrong) body p

abbrev pub descriptor_wrong : List ℕ → Part → Option MessageFault
descriptor_wrong body p = wrong_part descriptor_table body p

abbrev pub trip_wrong : List ℕ → Part → Option MessageFault
trip_wrong body p = wrong_part (trip_table descriptor_wrong stop_wrong) body p

abbrev pub entity_wrong : List ℕ → Part → Option MessageFault
entity_wrong body p = wrong_part (entity_table trip_wrong) body p

abbrev pub header_wrong : List ℕ → Part → Option MessageFault
header_wrong body p = wrong_part header_table body p

abbrev pub feed_wrong : List ℕ → Part → Option MessageFault
feed_wrong body p = wrong_part (feed_table header_wrong entity_wrong) body p

abbrev pub fields_or_none : Result (List Field) WireFault → List Field
fields_or_none (Ok fs) = fs
fields_or_none (Err w) = []

-- the fields that the bytes of a part are
abbrev pub fields_of : List ℕ → Part → List Field
fields_of body p = fields_or_none (cut p.from (bytes_in body p))

abbrev pub whole_of : List ℕ → Part
whole_of body = record { from = 0; to = length body }

-- 1 is DIFFERENTIAL
abbrev pub wrong_incrementality : Option ℕ → Option MessageFault
wrong_incrementality None = None
wrong_incrementality (Some n) = if n == 1 then Some fault.Differential else None

-- what is wrong with the headers of a feed, which are one at most
abbrev pub wrong_headers : List ℕ → List Part → Option MessageFault
wrong_headers body [] = Some fault.NoHeader
wrong_headers body (p ∷ ps) = wrong_incrementality (last (number_in 2) (fields_of body p))

-- The first fault of a body, if it has one: in its fields, and then in the feed as a whole.
abbrev pub first_fault : List ℕ → Option MessageFault
first_fault body = first (feed_wrong body (whole_of body)) (wrong_headers body (all (part_in 1) (fields_of body (whole_of body))))
