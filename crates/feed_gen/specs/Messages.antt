-- The real-time messages (GTFS Realtime reference, "FeedMessage"): of each commit and each real-time feed one, with 20 trip updates.
use Rattle.std.specs.Prelude.{ℕ, zero, suc, Bool, ◌+◌, ◌-◌, ◌*◌, ◌/◌, ◌%◌, ◌^◌, List, ◌++◌, ◌==◌, nat_lt, if◌then◌else◌, codes, decimal}
use Rattle.feed_gen.specs.Draws.{draw}
use Rattle.feed_gen.specs.Tables.{midnight}
use Rattle.feed_gen.specs.Texts.{joined, trip_id}
use Rattle.feed_gen.specs.Wire.{bytes_field, number_field}

-- the part whose draws make the message of a commit and a feed
abbrev pub part_of : ℕ → ℕ → ℕ
part_of commit feed = 1000 + 100 * commit + feed

-- version and timestamp
abbrev pub header : ℕ → List ℕ
header commit = bytes_field 1 (bytes_field 1 (codes "2.0") ++ number_field 3 (midnight + 60 * commit))

-- the trip, on 6 May 2024
abbrev pub trip_on_day : ℕ → ℕ → List ℕ
trip_on_day line trip = bytes_field 1 (trip_id line trip) ++ bytes_field 3 (codes "20240506")

-- CANCELED is 3
abbrev pub canceled : ℕ → ℕ → List ℕ
canceled line trip = bytes_field 1 (trip_on_day line trip ++ number_field 4 3)

-- a minute less than so many seconds, in two's complement of 64 bits
abbrev pub delay_of : ℕ → ℕ
delay_of seconds = if nat_lt seconds 60 then 2 ^ 64 - (60 - seconds) else seconds - 60

-- an arrival at the call with the sequence number is late
abbrev pub late_call : ℕ → ℕ → List ℕ
late_call sequence seconds = bytes_field 2 (number_field 1 sequence ++ bytes_field 2 (number_field 1 (delay_of seconds)))

abbrev pub late : ℕ → ℕ → ℕ → ℕ → List ℕ
late line trip sequence seconds = bytes_field 1 (trip_on_day line trip) ++ late_call sequence seconds

-- the draws of an entity begin at this place: of ten trips one is cancelled
abbrev pub is_canceled : ℕ → ℕ → ℕ → Bool
is_canceled seed part place = draw seed part (suc place) 10 == 0

abbrev pub after_entity : ℕ → ℕ → ℕ → ℕ
after_entity seed part place = if is_canceled seed part place then suc (suc place) else suc (suc (suc (suc place)))

-- the place of the first draw of an entity, by the draws of those before it
unfoldable pub place_of : ℕ → ℕ → ℕ → ℕ
place_of seed part zero = 0
place_of seed part (suc entity) = after_entity seed part (place_of seed part entity)

-- the trip update of a trip of all lines, whose draws begin at a place
abbrev pub update_at : ℕ → ℕ → ℕ → ℕ → List ℕ
update_at seed part place trip =
    if is_canceled seed part place then canceled (trip / 100) (trip % 100)
    else late (trip / 100) (trip % 100) (1 + draw seed part (suc (suc place)) 12) (draw seed part (suc (suc (suc place))) 900)

abbrev pub entity_of : ℕ → List ℕ → List ℕ
entity_of id update = bytes_field 2 (bytes_field 1 (decimal id) ++ bytes_field 3 update)

abbrev pub entity_from : ℕ → ℕ → ℕ → ℕ → List ℕ
entity_from seed part place entity = entity_of (suc entity) (update_at seed part place (draw seed part place 6000))

abbrev pub entity_at : ℕ → ℕ → ℕ → List ℕ
entity_at seed part entity = entity_from seed part (place_of seed part entity) entity

abbrev pub message_bytes : ℕ → ℕ → ℕ → List ℕ
message_bytes seed commit feed = header commit ++ joined (entity_at seed (part_of commit feed)) 20

-- its file
abbrev pub message_name : ℕ → ℕ → List ℕ
message_name commit feed = codes "message-" ++ (decimal commit ++ (codes "-" ++ (decimal feed ++ codes ".pb")))
