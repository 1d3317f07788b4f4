-- For each message: bytes with no fault spell what is read of them, and bytes that spell a value have no
-- fault and are read as it.
use Rattle.std.proofs.Common.{◌≡◌, ◌↔◌, ℕ, Bool, true, false, cond, eqb, List, [], Option, None, Ok, refl, sym, subst, ◌∙◌}
use Rattle.std.specs.Prelude.{option_map}
use Rattle.otp_model.specs.declared.message.Event.{Event}
use Rattle.pb_wire.specs.declared.field.Field.{Field}
use Rattle.pb_wire.specs.Wire.{Spells}
use Rattle.pb_wire.specs.Cutting.{cut}
use Rattle.rt_reader.specs.declared.fault.MessageFault.{MessageFault}
use Rattle.rt_reader.specs.declared.feed.Header.{Header}
use Rattle.rt_reader.specs.Fields.{Part, skipped, number, one, many, bytes_in, number_in}
use Rattle.rt_reader.specs.Tables.{last, event_table, header_table, event_wrong, header_wrong}
use Rattle.rt_reader.specs.Spelling.{SpellsEvent, SpellsHeader}
use Rattle.rt_reader.specs.Walk.{walk_value}
use Rattle.rt_reader.specs.Events.{signed, event_add, event_blank, event_value}
use Rattle.rt_reader.specs.Feeds.{header_add, header_blank, header_value}
use Rattle.rt_reader.proofs.Lists.{IsRead}
use Rattle.rt_reader.proofs.WalkLoop.{part_value_cut}
use Rattle.rt_reader.proofs.FirstLaws.{owns, Inner, none_from, part_none, part_right}
use Rattle.rt_reader.proofs.SlotLaws.{slot_last, last_option_map}

-- cutting is spelling
abbrev pub CutLaw : Type 0
CutLaw = (at : ℕ) (bytes : List ℕ) (fs : List Field) → (cut at bytes ≡ Ok fs) ↔ Spells at fs bytes

-- no message stands in these tables
no_one : (b c : Bool) (i : List ℕ → Part → Option MessageFault) → cond b number (cond c number skipped) ≡ one i → ⊥
no_one true c i e = cc
no_one false true i e = cc
no_one false false i e = cc

no_many : (b c : Bool) (i : List ℕ → Part → Option MessageFault) → cond b number (cond c number skipped) ≡ many i → ⊥
no_many true c i e = cc
no_many false true i e = cc
no_many false false i e = cc

scalars_inner : (b c : ℕ → Bool) (body : List ℕ) (fs : List Field) → Inner (λ n. cond (b n) number (cond (c n) number skipped)) body [] fs
scalars_inner b c body fs = record { ones = λ n i t. absurd (no_one (b n) (c n) i t); manies = λ n i t. absurd (no_many (b n) (c n) i t) }

-- ---- StopTimeEvent

event_delay : (body : List ℕ) (fs : List Field) → (walk_value (event_add body) event_blank fs).delay ≡ option_map signed (last (number_in 1) fs)
event_delay body fs = slot_last (λ e. e.delay) (event_add body) event_blank (λ f. option_map signed (number_in 1 f)) (λ x f. refl) refl fs ∙ last_option_map signed (number_in 1) fs

event_time : (body : List ℕ) (fs : List Field) → (walk_value (event_add body) event_blank fs).time ≡ option_map signed (last (number_in 2) fs)
event_time body fs = slot_last (λ e. e.time) (event_add body) event_blank (λ f. option_map signed (number_in 2 f)) (λ x f. refl) refl fs ∙ last_option_map signed (number_in 2) fs

pub event_found : CutLaw → (body : List ℕ) (p : Part) → event_wrong body p ≡ None → SpellsEvent body p (event_value body p)
event_found law body p h =
    let s = part_none event_table body p h in
    let fs = s.0 in
    subst (SpellsEvent body p) (sym (part_value_cut event_add event_blank body p fs s.1)) (record {
      fields = fs;
      spelt = (law p.from (bytes_in body p) fs).0 s.1;
      own = owns event_table body [] fs s.2;
      delay = event_delay body fs;
      time = event_time body fs;
    })

event_same : (a b : Event) → a.delay ≡ b.delay → a.time ≡ b.time → a ≡ b
event_same a b p q = λ i. record { delay = p i; time = q i }

pub event_only : CutLaw → (body : List ℕ) → IsRead (SpellsEvent body) (λ p. event_wrong body p ≡ None) (event_value body)
event_only law body = record {
  right = λ p e k. part_right event_table body p k.fields ((law p.from (bytes_in body p) k.fields).1 k.spelt)
      (none_from event_table body k.fields [] k.own (scalars_inner (λ n. eqb n 1) (λ n. eqb n 2) body k.fields));
  same = λ p e k.
      event_same e (walk_value (event_add body) event_blank k.fields) (k.delay ∙ sym (event_delay body k.fields)) (k.time ∙ sym (event_time body k.fields))
      ∙ sym (part_value_cut event_add event_blank body p k.fields ((law p.from (bytes_in body p) k.fields).1 k.spelt));
}

-- ---- FeedHeader

pub header_incrementality : (body : List ℕ) (fs : List Field) → (walk_value (header_add body) header_blank fs).incrementality ≡ last (number_in 2) fs
header_incrementality body fs = slot_last (λ h. h.incrementality) (header_add body) header_blank (number_in 2) (λ x f. refl) refl fs

header_timestamp : (body : List ℕ) (fs : List Field) → (walk_value (header_add body) header_blank fs).timestamp ≡ last (number_in 3) fs
header_timestamp body fs = slot_last (λ h. h.timestamp) (header_add body) header_blank (number_in 3) (λ x f. refl) refl fs

pub header_found : CutLaw → (body : List ℕ) (p : Part) → header_wrong body p ≡ None → SpellsHeader body p (header_value body p)
header_found law body p h =
    let s = part_none header_table body p h in
    let fs = s.0 in
    subst (SpellsHeader body p) (sym (part_value_cut header_add header_blank body p fs s.1)) (record {
      fields = fs;
      spelt = (law p.from (bytes_in body p) fs).0 s.1;
      own = owns header_table body [] fs s.2;
      incrementality = header_incrementality body fs;
      timestamp = header_timestamp body fs;
    })

header_same : (a b : Header) → a.incrementality ≡ b.incrementality → a.timestamp ≡ b.timestamp → a ≡ b
header_same a b p q = λ i. record { incrementality = p i; timestamp = q i }

pub header_only : CutLaw → (body : List ℕ) → IsRead (SpellsHeader body) (λ p. header_wrong body p ≡ None) (header_value body)
header_only law body = record {
  right = λ p e k. part_right header_table body p k.fields ((law p.from (bytes_in body p) k.fields).1 k.spelt)
      (none_from header_table body k.fields [] k.own (scalars_inner (λ n. eqb n 2) (λ n. eqb n 3) body k.fields));
  same = λ p e k.
      header_same e (walk_value (header_add body) header_blank k.fields) (k.incrementality ∙ sym (header_incrementality body k.fields)) (k.timestamp ∙ sym (header_timestamp body k.fields))
      ∙ sym (part_value_cut header_add header_blank body p k.fields ((law p.from (bytes_in body p) k.fields).1 k.spelt));
}
