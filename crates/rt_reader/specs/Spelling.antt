-- The bytes that spell a message. A list of fields spells them (Protocol Buffers, Encoding), and so for
-- each embedded message that is read. Each field that is read has its own wire type, and each text is
-- UTF-8, also one that a later one replaces. A scalar or text is the last one given, a repeated part
-- stands in order, a singular one at most once. That each varint is read in 64 bits, delay and time as
-- two's complement, is this project's own.
use Rattle.std.specs.Prelude.{◌≡◌, ℕ, false, IsTrue, List, [], ◌∷◌, Option, Some, None, option_map, unwrap_or}
use Rattle.std.specs.List.{AllByRecursion}
use Rattle.std.specs.Str.{is_utf8}
use Rattle.otp_model.specs.declared.message.Event.{Event}
use Rattle.otp_model.specs.declared.message.StopUpdate.{StopUpdate}
use Rattle.otp_model.specs.declared.message.TripUpdate.{TripUpdate}
use Rattle.otp_model.specs.declared.message.Entity.{Entity}
use Rattle.otp_model.specs.declared.message.Message.{Message}
use Rattle.pb_wire.specs.Wire.{Spells}
use Rattle.pb_wire.specs.declared.field.Field.{Field}
use Rattle.pb_wire.specs.declared.field.FieldValue.{FieldValue}
use Rattle.pb_wire.specs.declared.field.FieldValue.TheVariants as value
use Rattle.rt_reader.specs.declared.trip.Descriptor.{Descriptor}
use Rattle.rt_reader.specs.declared.feed.Header.{Header}
use Rattle.rt_reader.specs.Fields.{Part, Reading, skipped, number, words, one, many, bytes_in, number_in, part_in, not_zero}
use Rattle.rt_reader.specs.Tables.{event_table, stop_table, descriptor_table, trip_table, entity_table, header_table, feed_table, all, last, event_wrong, stop_wrong, descriptor_wrong, trip_wrong, entity_wrong, header_wrong}
use Rattle.rt_reader.specs.Events.{signed}
use Rattle.rt_reader.specs.Trips.{words_in, update_of}

abbrev pub IsNumber : FieldValue → Type 0
IsNumber (value.Varint n) = Unit {0}
IsNumber (value.Eight n) = ⊥
IsNumber (value.Bytes from to) = ⊥
IsNumber (value.Four n) = ⊥

abbrev pub IsText : List ℕ → FieldValue → Type 0
IsText body (value.Varint n) = ⊥
IsText body (value.Eight n) = ⊥
IsText body (value.Bytes from to) = IsTrue (is_utf8 (bytes_in body (record { from = from; to = to })))
IsText body (value.Four n) = ⊥

abbrev pub IsPart : FieldValue → Type 0
IsPart (value.Varint n) = ⊥
IsPart (value.Eight n) = ⊥
IsPart (value.Bytes from to) = Unit {0}
IsPart (value.Four n) = ⊥

-- a field that is read so has its own wire type, and a text is UTF-8
abbrev pub IsOwn : Reading → List ℕ → FieldValue → Type 0
IsOwn skipped body v = Unit {0}
IsOwn number body v = IsNumber v
IsOwn words body v = IsText body v
IsOwn (one inside) body v = IsPart v
IsOwn (many inside) body v = IsPart v

abbrev pub Owns : (ℕ → Reading) → List ℕ → List Field → Type 0
Owns table body fs = AllByRecursion (λ f. IsOwn (table f.number) body f.value) fs

-- no part and nothing, or one part that spells the value
abbrev pub IsOnce : {X : Type 0} → (Part → X → Type 0) → List Part → Option X → Type 0
IsOnce P [] None = Unit {0}
IsOnce P [] (Some x) = ⊥
IsOnce P (p ∷ []) None = ⊥
IsOnce P (p ∷ []) (Some x) = P p x
IsOnce P (p ∷ q ∷ ps) None = ⊥
IsOnce P (p ∷ q ∷ ps) (Some x) = ⊥

-- each part spells the value at its place
abbrev pub IsEach : {X : Type 0} → (Part → X → Type 0) → List Part → List X → Type 0
IsEach P [] [] = Unit {0}
IsEach P [] (x ∷ xs) = ⊥
IsEach P (p ∷ ps) [] = ⊥
IsEach P (p ∷ ps) (x ∷ xs) = P p x × IsEach P ps xs

pub record SpellsEvent (body : List ℕ) (p : Part) (e : Event) : Type 0 where
  pub fields : List Field
  pub spelt : Spells p.from fields (bytes_in body p)
  pub own : Owns event_table body fields
  pub delay : e.delay ≡ option_map signed (last (number_in 1) fields)
  pub time : e.time ≡ option_map signed (last (number_in 2) fields)

pub record SpellsStop (body : List ℕ) (p : Part) (u : StopUpdate) : Type 0 where
  pub fields : List Field
  pub spelt : Spells p.from fields (bytes_in body p)
  pub own : Owns (stop_table event_wrong) body fields
  pub seq : u.seq ≡ last (number_in 1) fields
  pub arrival : IsOnce (SpellsEvent body) (all (part_in 2) fields) u.arrival
  pub departure : IsOnce (SpellsEvent body) (all (part_in 3) fields) u.departure
  pub stop_id : u.stop_id ≡ last (words_in body 4) fields
  pub relation : u.relation ≡ unwrap_or (last (number_in 5) fields) 0

pub record SpellsDescriptor (body : List ℕ) (p : Part) (d : Descriptor) : Type 0 where
  pub fields : List Field
  pub spelt : Spells p.from fields (bytes_in body p)
  pub own : Owns descriptor_table body fields
  pub trip_id : d.trip_id ≡ last (words_in body 1) fields
  pub start_time : d.start_time ≡ last (words_in body 2) fields
  pub start_date : d.start_date ≡ last (words_in body 3) fields
  pub relation : d.relation ≡ unwrap_or (last (number_in 4) fields) 0
  pub route_id : d.route_id ≡ last (words_in body 5) fields

pub record SpellsTrip (body : List ℕ) (p : Part) (t : TripUpdate) : Type 0 where
  pub fields : List Field
  pub spelt : Spells p.from fields (bytes_in body p)
  pub own : Owns (trip_table descriptor_wrong stop_wrong) body fields
  pub trip : Option Descriptor
  pub updates : List StopUpdate
  pub one_trip : IsOnce (SpellsDescriptor body) (all (part_in 1) fields) trip
  pub each_update : IsEach (SpellsStop body) (all (part_in 2) fields) updates
  pub says : t ≡ update_of (record { trip = trip; updates = updates })

pub record SpellsEntity (body : List ℕ) (p : Part) (e : Entity) : Type 0 where
  pub fields : List Field
  pub spelt : Spells p.from fields (bytes_in body p)
  pub own : Owns (entity_table trip_wrong) body fields
  pub deleted : e.deleted ≡ unwrap_or (option_map not_zero (last (number_in 2) fields)) false
  pub update : IsOnce (SpellsTrip body) (all (part_in 3) fields) e.update

pub record SpellsHeader (body : List ℕ) (p : Part) (h : Header) : Type 0 where
  pub fields : List Field
  pub spelt : Spells p.from fields (bytes_in body p)
  pub own : Owns header_table body fields
  pub incrementality : h.incrementality ≡ last (number_in 2) fields
  pub timestamp : h.timestamp ≡ last (number_in 3) fields

-- A header is there, and its incrementality isn't 1, DIFFERENTIAL.
pub record SpellsMessage (body : List ℕ) (m : Message) : Type 0 where
  pub fields : List Field
  pub spelt : Spells 0 fields body
  pub own : Owns (feed_table header_wrong entity_wrong) body fields
  pub header : Header
  pub one_header : IsOnce (SpellsHeader body) (all (part_in 1) fields) (Some header)
  pub full : header.incrementality ≡ Some 1 → ⊥
  pub timestamp : m.timestamp ≡ header.timestamp
  pub entities : IsEach (SpellsEntity body) (all (part_in 2) fields) m.entities
