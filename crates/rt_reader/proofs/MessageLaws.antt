-- The two laws of a whole message: a body with no fault spells what is read of it, and a body that spells
-- a message has no fault and is read as it.
use Rattle.std.proofs.Common.{◌≡◌, ◌↔◌, ℕ, ◌-◌, ◌≤◌, List, [], ◌∷◌, length, map, Option, Some, None, Result, Ok, Err, refl, sym, ap, subst, ◌∙◌, inl, inr, arith}
use Rattle.std.specs.Prelude.{option_map}
use Rattle.std.proofs.lemmas.Bool.Decides.{eqb_tells}
use Rattle.std.proofs.lemmas.List.{take_all}
use Rattle.otp_model.specs.declared.message.Entity.{Entity}
use Rattle.otp_model.specs.declared.message.Message.{Message}
use Rattle.pb_wire.specs.declared.field.Field.{Field}
use Rattle.pb_wire.specs.Wire.{Spells}
use Rattle.pb_wire.specs.Cutting.{cut}
use Rattle.rt_reader.specs.declared.fault.MessageFault.{MessageFault}
use Rattle.rt_reader.specs.declared.feed.Header.{Header}
use Rattle.rt_reader.specs.declared.feed.Feed.{Feed}
use Rattle.rt_reader.specs.Faults.{Reads, first}
use Rattle.rt_reader.specs.Fields.{Part, bytes_in, part_in}
use Rattle.rt_reader.specs.Tables.{all, last, last_in, feed_table, header_wrong, entity_wrong, feed_wrong, wrong_incrementality, wrong_headers, first_fault, fields_of, fields_or_none, whole_of}
use Rattle.rt_reader.specs.Walk.{walk_value, part_wrong, part_value}
use Rattle.rt_reader.specs.Feeds.{header_add, header_blank, header_value, header_walked, entity_value, entity_walked, feed_seen, feed_add, feed_blank, wrong_header, feed_read, message_wrong, message_value, message_from}
use Rattle.rt_reader.specs.Spelling.{Owns, IsOnce, IsEach, SpellsHeader, SpellsEntity, SpellsMessage}
use Rattle.rt_reader.proofs.Lists.{all_map, once_only, each_only}
use Rattle.rt_reader.proofs.WalkLoop.{or_memory_map, part_value_cut}
use Rattle.rt_reader.proofs.WalkLaws.{feed_is_first}
use Rattle.rt_reader.proofs.FirstLaws.{first_none, owns, once_few, one_found, many_found, none_from, part_none, part_right}
use Rattle.rt_reader.proofs.KindLaws.{CutLaw, header_found, header_only, header_incrementality}
use Rattle.rt_reader.proofs.StopLaws.{parts_last}
use Rattle.rt_reader.proofs.TripLaws.{entity_found, entity_only, both_inner, feed_header, feed_entities}

whole_bytes : (body : List ℕ) → bytes_in body (whole_of body) ≡ body
whole_bytes body = take_all (length body - 0) body (omega arith)

-- ---- the fault

header_part : (body : List ℕ) (p : Part) → header_value body p ≡ walk_value (header_add body) header_blank (fields_of body p)
unfolding part_value
header_part body p = refl

headers_same : (body : List ℕ) (ps : List Part) → length ps ≤ 1 → wrong_header (last_in (map (header_value body) ps)) ≡ wrong_headers body ps
headers_same body [] few = refl
headers_same body (p ∷ []) few = ap wrong_incrementality (ap (λ h. h.incrementality) (header_part body p) ∙ header_incrementality body (fields_of body p))
headers_same body (p ∷ q ∷ ps) few = absurd (omega arith)

-- what was cut of a body, and what its header is
header_read : (body : List ℕ) (fs : List Field) → cut 0 (bytes_in body (whole_of body)) ≡ Ok fs → (feed_read body).header ≡ last (λ f. option_map (header_value body) (part_in 1 f)) fs
header_read body fs e = ap (λ m. m.header) (part_value_cut feed_add feed_blank body (whole_of body) fs e) ∙ feed_header body fs

entities_read : (body : List ℕ) (fs : List Field) → cut 0 (bytes_in body (whole_of body)) ≡ Ok fs → (feed_read body).entities ≡ all (λ f. option_map (entity_value body) (part_in 2 f)) fs
entities_read body fs e = ap (λ m. m.entities) (part_value_cut feed_add feed_blank body (whole_of body) fs e) ∙ feed_entities body fs

fault_of_rest : (body : List ℕ) (o : Option MessageFault) → feed_wrong body (whole_of body) ≡ o → first o (wrong_header (feed_read body).header) ≡ first o (wrong_headers body (all (part_in 1) (fields_of body (whole_of body))))
fault_of_rest body (Some e) h = refl
fault_of_rest body None h =
    let table = feed_table header_wrong entity_wrong in
    let s = part_none table body (whole_of body) h in
    let fs = s.0 in
    let fields_are : fields_of body (whole_of body) ≡ fs = ap fields_or_none s.1 in
    let few = once_few table 1 header_wrong body refl [] fs s.2 in
    ap wrong_header (header_read body fs s.1 ∙ parts_last (header_value body) 1 fs) ∙ headers_same body (all (part_in 1) fs) few ∙ ap (λ z. wrong_headers body (all (part_in 1) z)) (sym fields_are)

pub fault_is : (body : List ℕ) → message_wrong body ≡ first_fault body
fault_is body = ap (λ o. first o (wrong_header (feed_read body).header)) (feed_is_first body (whole_of body)) ∙ fault_of_rest body (feed_wrong body (whole_of body)) refl

-- ---- what is read is spelt

not_differential : (h : Header) → wrong_incrementality h.incrementality ≡ None → h.incrementality ≡ Some 1 → ⊥
not_differential h right e = let k = subst (λ o. wrong_incrementality o ≡ None) e right in cc

-- a feed whose header and entities are spelt
feed_found : (body : List ℕ) (fs : List Field) (o : Option Header) (entities : List Entity) → Spells 0 fs body → Owns (feed_table header_wrong entity_wrong) body fs
    → IsOnce (SpellsHeader body) (all (part_in 1) fs) o → IsEach (SpellsEntity body) (all (part_in 2) fs) entities → wrong_header o ≡ None → SpellsMessage body (message_from (record { header = o; entities = entities }))
feed_found body fs None entities spelt own once each right = absurd cc
feed_found body fs (Some h) entities spelt own once each right = record {
  fields = fs;
  spelt = spelt;
  own = own;
  header = h;
  one_header = once;
  full = not_differential h right;
  timestamp = refl;
  entities = each;
}

pub message_found : CutLaw → (body : List ℕ) → message_wrong body ≡ None → SpellsMessage body (message_value body)
message_found law body h =
    let table = feed_table header_wrong entity_wrong in
    let whole = whole_of body in
    let parts = first_none (part_wrong (feed_table header_walked entity_walked) feed_seen feed_add feed_blank body whole) (wrong_header (feed_read body).header) h in
    let s = part_none table body whole (sym (feed_is_first body whole) ∙ parts.0) in
    let fs = s.0 in
    let spelt = subst (Spells 0 fs) (whole_bytes body) ((law 0 (bytes_in body whole) fs).0 s.1) in
    feed_found body fs (feed_read body).header (feed_read body).entities spelt (owns table body [] fs s.2)
    (subst (IsOnce (SpellsHeader body) (all (part_in 1) fs)) (sym (header_read body fs s.1)) (one_found table 1 header_wrong body fs (SpellsHeader body) (header_value body) refl s.2 (header_found law body)))
    (subst (IsEach (SpellsEntity body) (all (part_in 2) fs)) (sym (entities_read body fs s.1)) (many_found table 2 entity_wrong body fs (SpellsEntity body) (entity_value body) refl s.2 (entity_found law body)))
    parts.1

-- ---- what is spelt is read

full_right : (o : Option ℕ) → (o ≡ Some 1 → ⊥) → wrong_incrementality o ≡ None
full_right None h = refl
full_right (Some n) h = elim (eqb_tells n 1) [ inl e ↦ absurd (h (ap Some e.1)) | inr e ↦ rw e.0 refl ]

message_same : (m : Message) (f : Feed) (h : Header) → m.timestamp ≡ h.timestamp → f.header ≡ Some h → m.entities ≡ f.entities → m ≡ message_from f
message_same m f h t e k =
    let time : m.timestamp ≡ (message_from f).timestamp = rw e t in
    λ i. record { timestamp = time i; entities = k i }

pub message_only : CutLaw → (body : List ℕ) (m : Message) → SpellsMessage body m → (message_wrong body ≡ None) × (m ≡ message_value body)
message_only law body m k =
    let table = feed_table header_wrong entity_wrong in
    let whole = whole_of body in
    let fs = k.fields in
    let e : cut 0 (bytes_in body whole) ≡ Ok fs = (law 0 (bytes_in body whole) fs).1 (subst (Spells 0 fs) (sym (whole_bytes body)) k.spelt) in
    let o = once_only (SpellsHeader body) (λ q. header_wrong body q ≡ None) (header_value body) (all (part_in 1) fs) (Some k.header) (header_only law body) k.one_header in
    let n = each_only (SpellsEntity body) (λ q. entity_wrong body q ≡ None) (entity_value body) (all (part_in 2) fs) m.entities (entity_only law body) k.entities in
    let right = feed_is_first body whole ∙ part_right table body whole fs e (none_from table body fs [] k.own (both_inner header_wrong entity_wrong body fs (o.1, o.0) n.0)) in
    let header_is : (feed_read body).header ≡ Some k.header = header_read body fs e ∙ parts_last (header_value body) 1 fs ∙ sym o.2 in
    let entities_are : m.entities ≡ (feed_read body).entities = n.1 ∙ sym (all_map (entity_value body) (part_in 2) fs) ∙ sym (entities_read body fs e) in (
      ap (λ z. first z (wrong_header (feed_read body).header)) right ∙ ap wrong_header header_is ∙ full_right k.header.incrementality k.full,
      message_same m (feed_read body) k.header k.timestamp header_is entities_are,
    )

-- ---- of an answer

pub is_exact : CutLaw → (body : List ℕ) (r : Result Message MessageFault) → Reads r (message_wrong body) (λ m. m ≡ message_value body) → Reads r (first_fault body) (SpellsMessage body)
is_exact law body (Ok m) h = (sym (fault_is body) ∙ h.0, subst (SpellsMessage body) (sym h.1) (message_found law body h.0))
is_exact law body (Err e) h = or_memory_map (λ f. message_wrong body ≡ Some f) (λ f. first_fault body ≡ Some f) e (λ f k. sym (fault_is body) ∙ k) h

pub is_only : CutLaw → (body : List ℕ) (r : Result Message MessageFault) → Reads r (message_wrong body) (λ m. m ≡ message_value body) → (m : Message) → SpellsMessage body m → Reads r None (λ x. x ≡ m)
is_only law body (Ok x) h m k = (refl, h.1 ∙ sym (message_only law body m k).1)
is_only law body (Err e) h m k = or_memory_map (λ f. message_wrong body ≡ Some f) (λ f. None ≡ Some f) e (λ f w. sym (message_only law body m k).0 ∙ w) h

pub spelt_exactly : CutLaw → (body : List ℕ) → (first_fault body ≡ None) ↔ ((m : Message) × SpellsMessage body m)
spelt_exactly law body = (λ h. (message_value body, message_found law body (fault_is body ∙ h)), λ s. sym (fault_is body) ∙ (message_only law body s.0 s.1).0)

pub spelt_once : CutLaw → (body : List ℕ) (a b : Message) → SpellsMessage body a → SpellsMessage body b → a ≡ b
spelt_once law body a b p q = (message_only law body a p).1 ∙ sym (message_only law body b q).1
