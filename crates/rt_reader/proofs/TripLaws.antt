-- For trip updates, entities and feeds: bytes with no fault spell what is read of them, and bytes that spell a value have no
-- fault and are read as it.
use Rattle.std.proofs.Common.{◌≡◌, ℕ, Bool, true, false, cond, eqb, List, [], Option, None, refl, sym, ap, subst, ◌∙◌}
use Rattle.std.specs.Prelude.{option_map, unwrap_or}
use Rattle.otp_model.specs.declared.message.Entity.{Entity}
use Rattle.pb_wire.specs.declared.field.Field.{Field}
use Rattle.rt_reader.specs.declared.fault.MessageFault.{MessageFault}
use Rattle.rt_reader.specs.declared.trip.TripDraft.{TripDraft}
use Rattle.rt_reader.specs.Fields.{Part, skipped, number, one, many, bytes_in, number_in, part_in, not_zero}
use Rattle.rt_reader.specs.Tables.{all, last, trip_table, entity_table, stop_wrong, descriptor_wrong, trip_wrong, entity_wrong}
use Rattle.rt_reader.specs.Spelling.{IsOnce, IsEach, SpellsStop, SpellsDescriptor, SpellsTrip, SpellsEntity}
use Rattle.rt_reader.specs.Walk.{walk_value}
use Rattle.rt_reader.specs.Trips.{stop_value, descriptor_value, trip_add, trip_blank, update_of}
use Rattle.rt_reader.specs.Feeds.{trip_value, entity_add, entity_blank, entity_value, header_value}
use Rattle.rt_reader.proofs.Lists.{all_map, IsRead, once_only, each_only}
use Rattle.rt_reader.proofs.WalkLoop.{part_value_cut}
use Rattle.rt_reader.proofs.FirstLaws.{owns, one_found, many_found, Inner, none_from, part_none, part_right}
use Rattle.rt_reader.proofs.SlotLaws.{slot_last, slot_or, slot_all, last_option_map}
use Rattle.rt_reader.specs.Feeds.{feed_add, feed_blank}
use Rattle.rt_reader.proofs.KindLaws.{CutLaw}
use Rattle.rt_reader.proofs.StopLaws.{parts_last, Fine, FineOnce, fine_one, fine_many, at_number, stop_found, stop_only, descriptor_found, descriptor_only}

-- ---- a table of one message that stands at most once, and of one of many

both_ones : (a b : Bool) (j m i : List ℕ → Part → Option MessageFault) (body : List ℕ) (ps : List Part) → (a ≡ true → FineOnce j body ps) → cond a (one j) (cond b (many m) skipped) ≡ one i → FineOnce i body ps
both_ones true b j m i body ps p t = fine_one j i body ps t (p refl)
both_ones false true j m i body ps p t = absurd cc
both_ones false false j m i body ps p t = absurd cc

both_manies : (a b : Bool) (j m i : List ℕ → Part → Option MessageFault) (body : List ℕ) (ps : List Part) → (b ≡ true → Fine m body ps) → cond a (one j) (cond b (many m) skipped) ≡ many i → Fine i body ps
both_manies true b j m i body ps p t = absurd cc
both_manies false true j m i body ps p t = fine_many m i body ps t (p refl)
both_manies false false j m i body ps p t = absurd cc

pub both_inner : (j m : List ℕ → Part → Option MessageFault) (body : List ℕ) (fs : List Field) → FineOnce j body (all (part_in 1) fs) → Fine m body (all (part_in 2) fs)
    → Inner (λ n. cond (eqb n 1) (one j) (cond (eqb n 2) (many m) skipped)) body [] fs
both_inner j m body fs h k = record {
  ones = λ n i t. both_ones (eqb n 1) (eqb n 2) j m i body (all (part_in n) fs) (at_number n 1 (FineOnce j body) fs h) t;
  manies = λ n i t. both_manies (eqb n 1) (eqb n 2) j m i body (all (part_in n) fs) (at_number n 2 (Fine m body) fs k) t;
}

-- ---- TripUpdate

trip_trip : (body : List ℕ) (fs : List Field) → (walk_value (trip_add body) trip_blank fs).trip ≡ last (λ f. option_map (descriptor_value body) (part_in 1 f)) fs
trip_trip body fs = slot_last (λ t. t.trip) (trip_add body) trip_blank (λ f. option_map (descriptor_value body) (part_in 1 f)) (λ x f. refl) refl fs

trip_updates : (body : List ℕ) (fs : List Field) → (walk_value (trip_add body) trip_blank fs).updates ≡ all (λ f. option_map (stop_value body) (part_in 2 f)) fs
trip_updates body fs = slot_all (λ t. t.updates) (trip_add body) (λ f. option_map (stop_value body) (part_in 2 f)) (λ x f. refl) fs trip_blank

pub trip_found : CutLaw → (body : List ℕ) (p : Part) → trip_wrong body p ≡ None → SpellsTrip body p (trip_value body p)
trip_found law body p h =
    let table = trip_table descriptor_wrong stop_wrong in
    let s = part_none table body p h in
    let fs = s.0 in
    let walked = walk_value (trip_add body) trip_blank fs in
    subst (λ t. SpellsTrip body p (update_of t)) (sym (part_value_cut trip_add trip_blank body p fs s.1)) (record {
      fields = fs;
      spelt = (law p.from (bytes_in body p) fs).0 s.1;
      own = owns table body [] fs s.2;
      trip = walked.trip;
      updates = walked.updates;
      one_trip = subst (IsOnce (SpellsDescriptor body) (all (part_in 1) fs)) (sym (trip_trip body fs)) (one_found table 1 descriptor_wrong body fs (SpellsDescriptor body) (descriptor_value body) refl s.2 (descriptor_found law body));
      each_update = subst (IsEach (SpellsStop body) (all (part_in 2) fs)) (sym (trip_updates body fs)) (many_found table 2 stop_wrong body fs (SpellsStop body) (stop_value body) refl s.2 (stop_found law body));
      says = refl;
    })

trip_same : (a b : TripDraft) → a.trip ≡ b.trip → a.updates ≡ b.updates → a ≡ b
trip_same a b p q = λ i. record { trip = p i; updates = q i }

pub trip_only : CutLaw → (body : List ℕ) → IsRead (SpellsTrip body) (λ p. trip_wrong body p ≡ None) (trip_value body)
trip_only law body =
    let table = trip_table descriptor_wrong stop_wrong in
    record {
      right = λ p t k.
          let fs = k.fields in
          let o = once_only (SpellsDescriptor body) (λ q. descriptor_wrong body q ≡ None) (descriptor_value body) (all (part_in 1) fs) k.trip (descriptor_only law body) k.one_trip in
          let m = each_only (SpellsStop body) (λ q. stop_wrong body q ≡ None) (stop_value body) (all (part_in 2) fs) k.updates (stop_only law body) k.each_update in
          part_right table body p fs ((law p.from (bytes_in body p) fs).1 k.spelt) (none_from table body fs [] k.own (both_inner descriptor_wrong stop_wrong body fs (o.1, o.0) m.0));
      same = λ p t k.
          let fs = k.fields in
          let o = once_only (SpellsDescriptor body) (λ q. descriptor_wrong body q ≡ None) (descriptor_value body) (all (part_in 1) fs) k.trip (descriptor_only law body) k.one_trip in
          let m = each_only (SpellsStop body) (λ q. stop_wrong body q ≡ None) (stop_value body) (all (part_in 2) fs) k.updates (stop_only law body) k.each_update in
          let walked = walk_value (trip_add body) trip_blank fs in
          let draft : TripDraft = record { trip = k.trip; updates = k.updates } in
          let trips = o.2 ∙ sym (parts_last (descriptor_value body) 1 fs) ∙ sym (trip_trip body fs) in
          let updates = m.1 ∙ sym (all_map (stop_value body) (part_in 2) fs) ∙ sym (trip_updates body fs) in
          k.says ∙ ap update_of (trip_same draft walked trips updates ∙ sym (part_value_cut trip_add trip_blank body p fs ((law p.from (bytes_in body p) fs).1 k.spelt)));
    }

-- ---- FeedEntity

entity_deleted : (body : List ℕ) (fs : List Field) → (walk_value (entity_add body) entity_blank fs).deleted ≡ unwrap_or (option_map not_zero (last (number_in 2) fs)) false
entity_deleted body fs =
    slot_or (λ e. e.deleted) (entity_add body) (λ f. option_map not_zero (number_in 2 f)) (λ x f. refl) fs entity_blank ∙ ap (λ o. unwrap_or o false) (last_option_map not_zero (number_in 2) fs)

entity_update : (body : List ℕ) (fs : List Field) → (walk_value (entity_add body) entity_blank fs).update ≡ last (λ f. option_map (trip_value body) (part_in 3 f)) fs
entity_update body fs = slot_last (λ e. e.update) (entity_add body) entity_blank (λ f. option_map (trip_value body) (part_in 3 f)) (λ x f. refl) refl fs

pub entity_found : CutLaw → (body : List ℕ) (p : Part) → entity_wrong body p ≡ None → SpellsEntity body p (entity_value body p)
entity_found law body p h =
    let table = entity_table trip_wrong in
    let s = part_none table body p h in
    let fs = s.0 in
    subst (SpellsEntity body p) (sym (part_value_cut entity_add entity_blank body p fs s.1)) (record {
      fields = fs;
      spelt = (law p.from (bytes_in body p) fs).0 s.1;
      own = owns table body [] fs s.2;
      deleted = entity_deleted body fs;
      update = subst (IsOnce (SpellsTrip body) (all (part_in 3) fs)) (sym (entity_update body fs)) (one_found table 3 trip_wrong body fs (SpellsTrip body) (trip_value body) refl s.2 (trip_found law body));
    })

entity_ones : (a b : Bool) (j i : List ℕ → Part → Option MessageFault) (body : List ℕ) (ps : List Part) → (b ≡ true → FineOnce j body ps) → cond a number (cond b (one j) skipped) ≡ one i → FineOnce i body ps
entity_ones true b j i body ps p t = absurd cc
entity_ones false true j i body ps p t = fine_one j i body ps t (p refl)
entity_ones false false j i body ps p t = absurd cc

entity_manies : (a b : Bool) (j i : List ℕ → Part → Option MessageFault) → cond a number (cond b (one j) skipped) ≡ many i → ⊥
entity_manies true b j i t = cc
entity_manies false true j i t = cc
entity_manies false false j i t = cc

entity_same : (a b : Entity) → a.deleted ≡ b.deleted → a.update ≡ b.update → a ≡ b
entity_same a b p q = λ i. record { deleted = p i; update = q i }

pub entity_only : CutLaw → (body : List ℕ) → IsRead (SpellsEntity body) (λ p. entity_wrong body p ≡ None) (entity_value body)
entity_only law body =
    let table = entity_table trip_wrong in
    record {
      right = λ p e k.
          let fs = k.fields in
          let o = once_only (SpellsTrip body) (λ q. trip_wrong body q ≡ None) (trip_value body) (all (part_in 3) fs) e.update (trip_only law body) k.update in
          part_right table body p fs ((law p.from (bytes_in body p) fs).1 k.spelt) (none_from table body fs [] k.own (record {
            ones = λ n i t. entity_ones (eqb n 2) (eqb n 3) trip_wrong i body (all (part_in n) fs) (at_number n 3 (FineOnce trip_wrong body) fs (o.1, o.0)) t;
            manies = λ n i t. absurd (entity_manies (eqb n 2) (eqb n 3) trip_wrong i t);
          }));
      same = λ p e k.
          let fs = k.fields in
          let o = once_only (SpellsTrip body) (λ q. trip_wrong body q ≡ None) (trip_value body) (all (part_in 3) fs) e.update (trip_only law body) k.update in
          entity_same e (walk_value (entity_add body) entity_blank fs) (k.deleted ∙ sym (entity_deleted body fs)) (o.2 ∙ sym (parts_last (trip_value body) 3 fs) ∙ sym (entity_update body fs))
          ∙ sym (part_value_cut entity_add entity_blank body p fs ((law p.from (bytes_in body p) fs).1 k.spelt));
    }

-- ---- FeedMessage

pub feed_header : (body : List ℕ) (fs : List Field) → (walk_value (feed_add body) feed_blank fs).header ≡ last (λ f. option_map (header_value body) (part_in 1 f)) fs
feed_header body fs = slot_last (λ m. m.header) (feed_add body) feed_blank (λ f. option_map (header_value body) (part_in 1 f)) (λ x f. refl) refl fs

pub feed_entities : (body : List ℕ) (fs : List Field) → (walk_value (feed_add body) feed_blank fs).entities ≡ all (λ f. option_map (entity_value body) (part_in 2 f)) fs
feed_entities body fs = slot_all (λ m. m.entities) (feed_add body) (λ f. option_map (entity_value body) (part_in 2 f)) (λ x f. refl) fs feed_blank
